pub mod Edges
pub mod Waiting
