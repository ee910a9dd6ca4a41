-- what names denote in the code
pub mod Entities
-- how the numbers of names are kept
pub mod Numberings
-- how the names in scope are kept
pub mod Bindings
-- definitions that only private contracts and proofs use
pub mod internal
