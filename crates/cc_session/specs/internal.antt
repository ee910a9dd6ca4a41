-- what a command does and writes
pub mod Calls
-- how far a script has been done
pub mod Steps
-- how a script from a spool ended, and how a service that was given up ends
pub mod Ends
-- when a generation ends
pub mod Enough
