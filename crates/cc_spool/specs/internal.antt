-- Which fault an answer reports last.
pub mod Telling
-- What is copied from a reader to a writer.
pub mod Copied
