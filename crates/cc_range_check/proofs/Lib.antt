-- How the walk is shown to answer what the definitions say: one position of a list, one operation and one statement at a time.
--
-- one more position of lists of ranges
pub mod Lists
-- one more operation
pub mod Finding
-- one more statement
pub mod Sequences
-- all operations are covered if none is listed
pub mod Covering
-- the call of main
pub mod Starting
