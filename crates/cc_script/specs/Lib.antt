-- What a line of a script says.
pub mod Line
-- What comes next in a script.
pub mod Reading
-- The numbers of the faults.
pub mod Fault
-- What only private contracts use.
pub mod internal
