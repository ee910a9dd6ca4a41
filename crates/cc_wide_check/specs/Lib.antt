-- definitions that no promise depends on
pub mod internal
