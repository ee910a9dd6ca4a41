-- Why commands could not be read.
pub mod Reading
