-- the numbers of the faults, and the library's fault for a journal's fault
pub mod Fault
-- the bytes that are a name
pub mod Name
-- a change that carries the unit itself
pub mod Change
-- the map from names to units, and what a command does to it
pub mod Apply
-- a command as the body of a record
pub mod Body
-- the map that records represent, and what an image recovers to; what contracts see of a library, and what its type keeps
pub mod Recovered
-- the shortest journal of a map: one Add per name
pub mod Compact
-- how much of its area a library takes
pub mod Space
-- which answer a call gives and when, and what the call leaves
pub mod Answers
-- a run of edits
pub mod Runs
-- for proofs and private contracts only
pub mod internal
-- Pages of lower crates that clauses here cite, re-exported.
pub use Rattle.cc_journal.specs.Format
pub use Rattle.cc_rv32.specs.contracts.image as image_contract
pub use Rattle.cc_unit.specs.contracts.unit as unit_contract
pub use Rattle.cc_unit.specs.declared.unit
