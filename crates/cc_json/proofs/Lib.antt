-- Lines of values.
pub mod Writing
