-- What only private contracts use.
pub mod Cutting
pub mod Bytes
