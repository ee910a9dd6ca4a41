-- What is written for a value.
pub mod Line
