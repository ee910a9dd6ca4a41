-- A line that is read, or is not, and how the lines end with it.
pub mod Reading
