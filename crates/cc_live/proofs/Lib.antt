-- How live sets and dead nodes are found. `liveness` is the solver's answer with sets of registers as facts. `drop_faint` asks the same
-- solver for strongly live sets, in which a dead node needs nothing of what it reads. Their least solution shows at once all that rounds of
-- `liveness` and `drop_dead` would find, and also two nodes that are read only by each other (Solved, Dropped).
--
-- What the join of two rows is.
pub mod Joining
-- What is live after a node.
pub mod Behind
-- The nodes, by their positions.
pub mod Nodes
-- The solution as live sets.
pub mod Solved
-- Dead nodes that were made nops.
pub mod Dropped
-- The labels of dead nodes, as the code lists them.
pub mod Listing
