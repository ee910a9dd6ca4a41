-- The fields of an instruction word, its immediates, and what an operand can be.
pub mod Fields
-- The instruction table: the instruction of each word, and the word of each instruction.
pub mod Table
-- The memory map, the state, what each instruction does, and what a run does.
pub mod Machine
-- The state that lists of words represent.
pub mod Shown
-- A machine as contracts see it, and the run that it represents.
pub mod Simulation
-- When a machine has stopped in place.
pub mod InPlace
-- The listing of an image.
pub mod Listing
-- Worked runs and lines, each by computation. No contract depends on them.
pub mod rows
-- Definitions that only private contracts and proofs use: the code decoded once, and the simulator's own state. A reader need not
-- check them.
pub mod internal
