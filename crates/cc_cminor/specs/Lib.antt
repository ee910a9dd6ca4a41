-- definitions that only private contracts and proofs use
pub mod internal
