-- What an audit says about a unit that was found.
pub mod Auditing
-- What is written for a part of a unit that was found.
pub mod Showing
-- How an answer of a service is written, byte for byte.
pub mod Telling
-- What a script means for the client that runs it, and what is written for it.
pub mod Playing
-- How sessions end.
pub mod Session
-- Many clients, each with the scripts that its spool gives.
pub mod Spooling
-- How the generations of serving follow one another.
pub mod Generations
-- Definitions that only private contracts use.
pub mod internal
