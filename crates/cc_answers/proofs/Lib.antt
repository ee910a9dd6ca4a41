-- Writes that follow one another.
pub mod Writing
