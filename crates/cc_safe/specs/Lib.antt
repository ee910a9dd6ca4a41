-- when a program cannot go wrong at all
pub mod Safe
-- definitions that no promise depends on
pub mod internal
