-- The language: its syntax as data, and what one node does.
pub mod Rtl
-- Live sets, and nodes that may become nops.
pub mod Live
-- The nodes by their positions, as dataflow numbers them.
pub mod Positions
-- The RTL in the code's values.
pub mod Code
-- What a pair guarantees: the RTL of one function of a unit.
pub mod Pair
-- Definitions for the proofs.
pub mod internal
-- Modules of the crates below that clauses here use, re-exported.
pub use Rattle.cc_c_semantics.specs.Meaning
pub use Rattle.cc_c_semantics.specs.Numbered
pub use Rattle.cc_c_semantics.specs.Resolved
