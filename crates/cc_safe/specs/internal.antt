-- The ranks of functions.
pub mod Ranks
