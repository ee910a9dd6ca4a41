-- Definitions for private contracts and proofs.
-- when a list lays out a function's blocks
pub mod Lays
-- the list that lays out blocks in an order
pub mod Layout
-- Where chains of empty blocks end.
pub mod Ends
-- What is reached in a graph.
pub mod Reached
-- Blocks by their places.
pub mod Places
-- labels to which nothing leads
pub mod Idle
-- what is made from a function
pub mod Whole
