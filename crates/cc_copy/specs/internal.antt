-- Why the records of units could not be written.
pub mod Writing
-- The names whose units were audited.
pub mod Judged
-- Why names are not read, or have no units.
pub mod Named
