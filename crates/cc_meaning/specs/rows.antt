-- Worked examples.
pub mod Forms
