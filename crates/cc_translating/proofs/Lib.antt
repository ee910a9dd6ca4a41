-- what the command writes for what it reads
pub mod Telling
