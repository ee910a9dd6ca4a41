-- the number of pieces of a source, or the number with which it is refused
pub mod Plan
-- the rules of the build that compiles, and what a piece keeps
pub mod Compiling
-- what the headline says about every image of the disk
pub mod Recovered
-- the pieces of a compiled unit, in the form that the core requires
pub mod Built
-- for private contracts
pub mod internal
