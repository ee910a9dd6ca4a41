-- Definitions that only private contracts and proofs use.
-- the code's values
pub mod Views
-- what the private functions answer
pub mod Answers
