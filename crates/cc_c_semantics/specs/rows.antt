-- Worked examples.
pub mod Programs
