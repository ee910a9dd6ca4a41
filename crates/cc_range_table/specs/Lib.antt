-- the table, and what is known of variables and objects at a place
pub mod Table
-- when a call and its answer are in the table
pub mod Calls
-- what is known after a statement, when a table is inductive, and which operations are covered
pub mod Inductive
-- what holds for a unit whose table is inductive
pub mod Laws
-- definitions that only proofs use
pub mod internal
-- worked examples
pub mod rows
