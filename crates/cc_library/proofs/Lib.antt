-- How a library's clauses follow from those of its log. If an image has only certain records, it recovers only to the map that they
-- represent, since a body spells only one command (Commands, Standing). So the clauses of a change follow from the log's clauses
-- (Changing). Names compare as the numbers of their first eight bytes do, if these numbers differ: if one number is larger so far, it
-- stays larger, whatever bytes follow (Prefix).
--
-- a `BTreeMap` as a finite map
pub mod Tables
-- words read one after the other
pub mod Words
-- for each kind of field, what is read is what was written
pub mod Fields
-- the command that is read is the one that the bytes spell
pub mod Commands
-- the map that records represent, with one more record
pub mod Standing
-- a change of the map in two halves
pub mod Changing
-- what a refused change leaves
pub mod Refused
-- what an opened journal's records say about the image
pub mod Opening
-- runs of edits
pub mod Running
-- one Add per name represents the map
pub mod Compacting
-- the promises of a change and of a compaction, put together
pub mod Whole
pub mod Room
mod Sizes
-- names compare as the numbers of their prefixes do, if these numbers differ
pub mod Prefix
