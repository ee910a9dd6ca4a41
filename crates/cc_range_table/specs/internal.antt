-- Definitions that only proofs use.
-- what holds of a run of a function
pub mod Known
