-- Lines that are added one after the other.
pub mod Lines
-- The names of both maps.
pub mod Names
-- The list of lines is empty exactly if the maps are equal.
pub mod Equal
