-- What is stated elsewhere for a disk, stated for its commands and images.
pub mod Steps
