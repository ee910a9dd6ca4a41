-- Which names a script may have.
pub mod Names
-- What a spool gave, and what it was handed.
pub mod Spool
-- How an answer is read: lines, and sources between them.
pub mod Answer
-- What an answer consists of, and whether it reports a fault.
pub mod Parts
-- What became of a script that was left for a server, and how much of its answer was written.
pub mod Submitted
-- Definitions for private contracts.
pub mod internal
-- Worked answers, each proved by computation; no contract rests on them.
pub mod rows
