-- Definitions for private contracts and proofs.
-- places counted from the end
pub mod Behind
-- the addresses of objects as a table
pub mod Bases
-- what comes before a frame
pub mod Ahead
-- which steps are in loops
pub mod Loops
-- what the instruction of a recipe has to hold
pub mod Room
