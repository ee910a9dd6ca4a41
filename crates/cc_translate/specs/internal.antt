-- Definitions that only private contracts and proofs use.
-- the first line of a text
pub mod Cut
-- what the private functions answer
pub mod Answers
