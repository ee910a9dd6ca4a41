-- Definitions that only private contracts and proofs use.
--
-- the table of what functions need
pub mod Deeper
-- the functions from which calls lead to a function
pub mod Reached
