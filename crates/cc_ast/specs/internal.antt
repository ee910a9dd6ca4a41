-- Definitions that only private contracts and proofs use.
-- the tree of a list of arguments
pub mod Arguments
