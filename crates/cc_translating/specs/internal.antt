-- Definitions that only private contracts and proofs use.
-- how far the command got
pub mod Working
