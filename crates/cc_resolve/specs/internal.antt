-- Definitions that only private contracts and proofs use.
-- offsets while objects are laid out
pub mod Laying
