-- Definitions that only private contracts and proofs use.
-- how the code stores which functions are defined
pub mod Functions
-- what the code has found so far
pub mod Findings
-- how the code counts what has a limit
pub mod Counts
