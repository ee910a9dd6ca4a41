-- How many nodes a function needs.
pub mod Size
-- Definitions for the proofs.
pub mod internal
