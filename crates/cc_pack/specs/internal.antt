-- What only private contracts use.
pub mod Head
