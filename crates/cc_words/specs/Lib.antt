-- The whole number that a word represents, and each operation on words as a formula over whole numbers.
pub mod Words
-- The operators of the intermediate languages: their values, and their names.
pub mod Operators
-- How wide an object's elements are, which part of a word an element keeps, and how many words some elements fill.
pub mod Widths
-- What a run shows: the words that it writes, and marks for its reads.
pub mod Observed
-- Worked values of these definitions, each shown by computation. No contract depends on them.
pub mod rows
-- Definitions that only private contracts and proofs use.
pub mod internal
