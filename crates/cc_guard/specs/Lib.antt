-- the guards, and the code with them
pub mod Guard
-- the code with words in variables
pub mod Held
-- what holds for all guarded code
pub mod Laws
-- units in which no function needs a guard
pub mod Safe
-- definitions that only private contracts and proofs use
pub mod internal
-- worked examples
pub mod rows
