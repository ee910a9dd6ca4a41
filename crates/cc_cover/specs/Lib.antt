-- What `trace` prints about a run.
pub mod Traced
-- What only private contracts use.
pub mod internal
