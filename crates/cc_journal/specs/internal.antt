pub mod Commit
pub mod Framed
pub mod Reading
