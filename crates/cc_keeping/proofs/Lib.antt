-- Answers that are written and then flushed.
pub mod Settled
