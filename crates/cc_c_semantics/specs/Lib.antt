-- the outcome of a run
pub mod Outcome
-- what a program does: the meaning of C
pub mod Meaning
-- what a checked program shows
pub mod Checked
-- the meaning of one function
pub mod Function
-- what the names in a function's body refer to
pub mod Resolved
-- what holds for every call
pub mod Calls
-- the meaning by number, in the form that the passes use
pub mod Numbered
-- worked examples
pub mod rows
-- Modules of the crates below that clauses here use, re-exported.
pub use Rattle.cc_layout.specs.Layout
