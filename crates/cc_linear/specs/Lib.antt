-- the labels to which items lead
pub mod Targets
-- for private contracts and proofs only
pub mod internal
