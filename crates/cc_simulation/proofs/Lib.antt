-- prefixes; following is reflexive and transitive
pub mod Behaving
-- the words of an output
pub mod Words
-- two cuts of one run are comparable
pub mod Cuts
-- a run that keeps up with the source follows it
pub mod Following
-- what follows from a simulation
pub mod Simulating
-- two languages in lockstep have the same run
pub mod Lockstep
