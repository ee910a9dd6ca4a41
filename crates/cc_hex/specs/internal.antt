-- Definitions that only private contracts use, and how a reader's steps follow one another.
pub mod Reading
-- the number of a record's type
pub mod Types
