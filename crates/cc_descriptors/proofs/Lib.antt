-- Each stand-in that is held is for the descriptor that was free.
pub mod Held
