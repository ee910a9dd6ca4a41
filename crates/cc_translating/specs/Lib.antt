-- what the command writes
pub mod Written
-- definitions that no promise depends on
pub mod internal
