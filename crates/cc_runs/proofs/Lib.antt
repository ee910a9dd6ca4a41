-- A run that has ended stays ended, and a run that is going was going before.
pub mod Counting
-- The words of a line, one after the other.
pub mod InputWords
-- The first line of an input.
pub mod FirstLine
-- A run that goes on, turn by turn.
pub mod Turns
