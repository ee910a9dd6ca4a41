-- The places of an image's functions.
pub mod Placing
