-- Which units are chosen (Chosen), which of them are confirmed (Audited), what is selected for texts (Named), and the new library
-- (Filled).
pub mod Chosen
pub mod Audited
pub mod Named
pub mod Filled
