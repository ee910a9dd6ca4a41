-- Definitions for private contracts.
-- the reply for an answer to a change
pub mod Decide
-- what is checked about clients
pub mod Apart
-- the refusals of a change that come before its room is checked
pub mod Early
