-- How the crash theorem is proved. Each handler takes the step that `Step` has for its event. What the disk's images hold is
-- described by phase, and a device step leads from one point of a commit to the next (Held). In every phase an image holds
-- records that represent the order, or all of it but its last command, if that command was not acknowledged (Ending). Each step
-- keeps this (Sound). Whether the last command is in effect decides what a recovery keeps of the order (Orders). In a rewrite the
-- old records and the new ones both represent the whole order, so whichever a crash leaves, nothing is lost; the journal's lemma
-- about its commit says that an image has one or the other (Rewrites). After a crash during the write of the area byte it is not
-- known which area is in use; the recovery reads that byte. The new records always fit: a command adds at most one entry to the
-- map, and the record of that entry is as long as the command's own (Compacted).
--
-- From small to large: lists and orders, what the disk holds during a commit and a rewrite, what each step keeps, whole runs.
--
-- structs without fields at run time
pub mod Walks
-- one piece of one job is written
pub mod Jobs
-- lists in which one element is written or pushed
pub mod Lists
-- a command that a job begins has a right unit
pub mod Whole
-- orders with one more command, and what a recovery keeps of them
pub mod Orders
-- what the images hold during a commit, step by step
pub mod Held
-- the shortest journal of a map never takes more room than another journal of the map
pub mod Compacted
-- what the images hold during a rewrite, step by step
pub mod Rewrites
-- what each image recovers to, by phase
pub mod Ending
-- if what an event asks for holds, the event has a step
pub mod Possible
-- what the records of an opened disk show
pub mod Beginnings
-- the recovery after a crash has its step
pub mod Reopening
-- what holds for the contents after any events
pub mod Sound
-- a run goes on by one turn
pub mod Runs
-- what holds for a run, whatever pieces are handed in
pub mod Anyhow
-- how a run goes on
pub mod Turns
