-- reading a function from left to right
pub mod Reading
