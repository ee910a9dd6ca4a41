-- What a unit's file is.
pub mod File
-- The numbers of the faults.
pub mod Fault
-- What only private contracts use.
pub mod internal
