-- The line of a stop, between what was seen before and after it.
pub mod Stopping
