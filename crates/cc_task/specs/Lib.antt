-- What the program may be asked to do with a text.
pub mod Task
