-- Definitions that only private contracts and proofs use.
-- what a word is
pub mod Word
