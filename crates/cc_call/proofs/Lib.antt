-- One line after another.
pub mod Turns
-- What was written for a call.
pub mod Answered
