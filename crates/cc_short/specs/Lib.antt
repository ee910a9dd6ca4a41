-- What the script of a short command is, and when a command has no script.
pub mod Short
-- The numbers of the faults.
pub mod Fault
-- What only private contracts use.
pub mod internal
