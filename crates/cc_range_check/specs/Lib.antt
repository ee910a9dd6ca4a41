-- the facts, rows and tables that values of the code represent
pub mod Values
-- the sizes of objects that they represent
pub mod Sizes
-- which operations are not covered
pub mod Places
-- what the public calls answer
pub mod Checking
-- what the answers are worth
pub mod Laws
-- definitions that only proofs use
pub mod internal
