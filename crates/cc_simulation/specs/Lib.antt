-- What a bounded run shows, and when one meaning follows another.
pub mod Behavior
-- What the functions of a unit share, what a call passes and answers, and how an element, the input and the output change.
pub mod World
-- The unknown words, and the one order in which they are taken.
pub mod Unknown
-- The run of one function of an intermediate language, and its work.
pub mod Run
-- What the passes know about a unit's meaning.
pub mod Meaning
-- A run that keeps up with the source.
pub mod Tracks
-- What a language's moves must satisfy, and when two cuts of one run are comparable.
pub mod Cuts
-- The laws, each the contract of a function of this crate.
pub mod Laws
-- Definitions for the proofs of passes: simulations of one language by the next.
pub mod internal
-- Modules of the crates below that clauses here use, re-exported.
pub use Rattle.cc_words.specs.Widths
pub use Rattle.cc_words.specs.declared.operators
