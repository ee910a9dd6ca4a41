-- How printed bytes are shown on a terminal.
pub mod Shown
