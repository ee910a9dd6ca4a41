-- Bodies that spell one more command.
pub mod Reading
-- Lines that follow one another.
pub mod Writing
