-- A task that is traced.
pub mod Watched
