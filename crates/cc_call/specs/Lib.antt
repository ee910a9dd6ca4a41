-- The answer to a call of a unit.
pub mod Call
-- The answers to one line after another.
pub mod Lines
-- What `call` writes, and its status.
pub mod Answered
-- How much memory the image of a unit takes.
pub mod Measured
-- What only private contracts use.
pub mod internal
