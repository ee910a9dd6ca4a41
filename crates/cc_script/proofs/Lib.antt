pub mod Words
pub mod Rests
