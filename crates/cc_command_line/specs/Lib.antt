-- What the program may be asked to do.
pub mod Work
