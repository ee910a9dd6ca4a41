-- Definitions that only private contracts and proofs use.
-- what the scanner's functions return, as functions on lists
pub mod Scan
