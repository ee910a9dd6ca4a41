-- Definitions for proofs and private contracts.
--
-- what a step needs of the state, and how a recovery tests the last command
pub mod Ready
-- how a handler answers for its step
pub mod Answers
-- what is found when a disk is opened, and what a run begins with there
pub mod Opening
