pub mod Format
pub mod Commit
