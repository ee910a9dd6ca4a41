-- What an image needs, with the names and places of its functions.
pub mod Measured
-- What is written about what was found.
pub mod Written
