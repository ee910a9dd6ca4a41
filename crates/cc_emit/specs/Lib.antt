-- what the code of one function owes on the machine, wherever the code is
pub mod Contract
-- the machine of a board with less stack
pub mod Board
-- where each object lies
pub mod Objects
-- the frame of a function
pub mod Frames
-- which branches replace comparisons
pub mod Branches
-- the items of each step
pub mod Emission
-- what x3 and the scratch registers hold of addresses, which steps use them, and whether a function sets x3
pub mod Scratch
-- what comes before a function's frame
pub mod Early
-- the items of a function's code
pub mod Function
-- what a piece keeps
pub mod Piece
-- Worked examples of emission, by computation. No contract depends on them.
pub mod rows
-- for private contracts and proofs only
pub mod internal
