-- the operators on a register and a word
pub mod Immediates
-- the language: the functions of Selected, and what one step does
pub mod Selected
-- known words, and the steps that are chosen with them
pub mod Known
-- known sums, and the accesses to nearby elements
pub mod Near
-- tests that go before labels and into jumps
pub mod Threading
-- which registers are live before a step
pub mod Live
-- the registers that are live at labels, found by sweeps
pub mod Table
-- the steps of a function's items
pub mod Selection
-- worked examples
pub mod rows
-- what a pair keeps
pub mod Pair
-- for private contracts and proofs only
pub mod internal
