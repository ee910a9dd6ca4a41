-- Which nodes a statement may become.
pub mod Translates
-- The generator as a function.
pub mod Generate
-- Definitions for the contracts of the generator's code.
pub mod Generating
