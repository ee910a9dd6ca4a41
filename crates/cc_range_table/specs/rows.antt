pub mod Inductive
