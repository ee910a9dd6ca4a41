-- What only private contracts use.
-- how far a machine goes while its reads and writes are kept
pub mod Going
