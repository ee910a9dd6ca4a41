pub mod Crossing
pub mod Skipping
pub mod Faults
