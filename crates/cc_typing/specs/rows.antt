-- Worked examples.
pub mod Units
