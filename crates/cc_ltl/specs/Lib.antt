-- the registers that the allocator may use, and the largest number of slots
pub mod Registers
-- the functions of LTL, and what one block does
pub mod Ltl
-- a function as bytes
pub mod Bytes
-- the numbers of the faults
pub mod Fault
-- a function as text
pub mod Listing
-- definitions for proofs and private contracts only
pub mod internal
-- Worked examples, computed. No contract depends on them.
pub mod rows
