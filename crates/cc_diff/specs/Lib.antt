-- The differences between two libraries, and why they were not compared.
pub mod Diff
-- The lines that are written for the differences.
pub mod Written
-- Definitions for private contracts.
pub mod internal
