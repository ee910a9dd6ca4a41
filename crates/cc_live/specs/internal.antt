-- Rows as facts, and the step over a node.
pub mod Facts
-- What a row holds.
pub mod Holding
-- The laws of rows, as lemmas.
pub mod Laws
-- How often a row can still rise.
pub mod Room
-- The labels of dead nodes.
pub mod Dead
