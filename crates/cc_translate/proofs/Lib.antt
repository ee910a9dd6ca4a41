-- the lines of a text, and what they carry
pub mod Lines
-- translations do the same
pub mod Doing
-- what the private functions answer
pub mod Answering
