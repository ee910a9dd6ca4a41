-- the code's result, in terms of the definitions
pub mod Erase
-- a run that may write only so many words
pub mod Within
-- the number of the fault
pub mod Fault
-- worked examples
pub mod rows
-- definitions that only private contracts and proofs use
pub mod internal
