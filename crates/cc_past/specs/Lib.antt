-- What a command of a library stored, and why it stored nothing.
pub mod Past
-- What was put back.
pub mod Restored
-- Definitions for private contracts.
pub mod internal
