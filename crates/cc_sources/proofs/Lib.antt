-- What was read from a reader.
pub mod Pieces
-- One text after another.
pub mod Texts
