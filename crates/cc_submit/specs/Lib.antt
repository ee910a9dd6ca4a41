-- What is printed for a script that was sent, and the status.
pub mod Printed
-- Definitions that only private contracts use.
pub mod internal
