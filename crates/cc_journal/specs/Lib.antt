-- the numbers of the faults
pub mod Fault
-- the bytes of a journal, and which records an image holds
pub mod Format
-- one commit: its bytes, their offsets, and the order in which they are written
pub mod Commit
-- the body that is in the bytes kept for it
pub mod Body
-- what contracts see of a journal, and what its type keeps
pub mod Journal
-- which answer a call gives, and when
pub mod Answers
-- worked rows of `Format` and `Commit`, computed
pub mod rows
-- what only proofs and private contracts use
pub mod internal
