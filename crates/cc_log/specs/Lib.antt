-- The commands whose records are on a disk, and what each stored.
pub mod Commands
-- The lines that are written for commands.
pub mod Written
-- Definitions for private contracts.
pub mod internal
