-- The whole: texts, joined one after another.
pub mod Joined
-- Which text a byte of the whole comes from.
pub mod Places
-- What is read from a reader.
pub mod Reading
