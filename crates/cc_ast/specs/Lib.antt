-- the syntax tree
pub mod Tree
-- the syntax tree made from the code's values
pub mod Erase
-- which tokens spell which tree, and what the limits count at each token
pub mod Grammar
-- the limits of a unit, and the first token that breaks the grammar or a limit
pub mod Limits
-- what a text spells, and why it is refused
pub mod Parse
-- what a parsed text contains, and what the parser's answer means
pub mod Source
-- definitions that no promise depends on
pub mod internal
-- Modules of the crates below that clauses here use, re-exported.
pub use Rattle.cc_tokens.specs.Place
pub use Rattle.cc_tokens.specs.Tokens
pub use Rattle.cc_tokens.specs.declared.fault
pub use Rattle.cc_tokens.specs.declared.place as place_type
pub use Rattle.cc_tokens.specs.declared.scalar
