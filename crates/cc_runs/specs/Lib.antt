-- Runs that have stopped in place.
pub mod Final
-- The number of instructions of a run.
pub mod Count
-- Runs that may write only so many words.
pub mod Within
-- The input words in a line of text.
pub mod Words
-- What is written for a run.
pub mod Written
-- The lines of an input.
pub mod Reading
-- Runs that go on while their input comes.
pub mod Live
-- Definitions for private contracts.
pub mod internal
