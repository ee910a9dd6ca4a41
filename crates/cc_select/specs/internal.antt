-- When the table of labels is right.
pub mod Settled
-- Sets of registers as bits, the table as a vector, and what is known.
pub mod Sets
-- The two passes, step by step.
pub mod Passes
