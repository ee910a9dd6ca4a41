-- A map with one more name.
pub mod Names
