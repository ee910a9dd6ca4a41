-- Definitions for private contracts.
pub mod Flushing
