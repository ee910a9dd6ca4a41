-- Definitions that only private contracts and proofs use.
-- what the code checks about the names in scope
pub mod Scopes
