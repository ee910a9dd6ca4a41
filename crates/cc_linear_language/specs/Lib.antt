-- the language: the functions of Linear, and what one item does
pub mod Linear
-- what a pair keeps
pub mod Pair
-- Pages of lower crates that clauses here cite, re-exported.
pub use Rattle.cc_c_semantics.specs.Meaning
pub use Rattle.cc_c_semantics.specs.Numbered
