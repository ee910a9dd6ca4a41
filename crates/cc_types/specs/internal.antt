-- Definitions that only private contracts and proofs use.
-- what an external declaration defines and declares
pub mod Externals
