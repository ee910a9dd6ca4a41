-- Definitions that only proofs use.
-- what a walk has found
pub mod Walked
