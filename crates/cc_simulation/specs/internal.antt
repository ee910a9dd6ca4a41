pub mod Simulation
pub mod Effects
