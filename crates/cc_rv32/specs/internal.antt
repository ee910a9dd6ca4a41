pub mod Lowered
-- the words that may differ from 0
pub mod Marks
pub mod Simulated
-- The operands of an instruction, as the listing shows them.
pub mod Operands
