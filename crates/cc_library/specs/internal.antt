-- reading a body from left to right
pub mod Reading
-- a change in two halves
pub mod Halves
-- the results of a step of a replay and of a change
pub mod Steps
-- the prefix of a name as one number
pub mod Prefix
