-- A line cut at its first space.
pub mod Cutting
-- The end of a run on a machine.
pub mod Ending
-- A machine that is fed, turn by turn.
pub mod Turning
-- A byte that is read.
pub mod Bytes
