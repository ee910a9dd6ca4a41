-- Definitions that only private contracts and proofs use.
-- how a body becomes Cminor
pub mod Lowering
-- the code of a resolved function
pub mod Lowered
-- a value that code uses
pub mod Taken
