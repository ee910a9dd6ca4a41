-- A run within two numbers of steps.
pub mod Counting
-- what a machine reads and writes
pub mod Observing
