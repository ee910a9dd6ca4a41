-- Cminor is a layer
pub mod Layer
-- the Cminor that the code's functions build
pub mod Codes
-- a sequence uses the same variables as the list of its statements
pub mod Counting
