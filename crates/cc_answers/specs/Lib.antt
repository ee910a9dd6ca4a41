-- What an image does.
pub mod Run
-- What is written as an answer and for a fault.
pub mod Text
-- What is written as an answer to a script, and how that may fail.
pub mod Telling
-- Definitions for private contracts.
pub mod internal
