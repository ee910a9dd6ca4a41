-- Sets of registers as rows of bits.
pub mod Rows
-- The least live sets, strongly live sets, and a function without dead nodes.
pub mod Liveness
-- Definitions for private contracts and proofs.
pub mod internal
