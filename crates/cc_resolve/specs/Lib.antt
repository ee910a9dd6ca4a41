-- the operation on words that an operator performs in its type
pub mod Operations
-- how the code stores the names of objects and functions
pub mod Numberings
-- definitions that only private contracts and proofs use
pub mod internal
-- Modules of the crates below that clauses here use, re-exported.
pub use Rattle.cc_ast.specs.Tree
pub use Rattle.cc_ast.specs.declared.ast
pub use Rattle.cc_ast.specs.scalar
pub use Rattle.cc_types.specs.Limits
pub use Rattle.cc_types.specs.Names
pub use Rattle.cc_types.specs.Operators
pub use Rattle.cc_types.specs.Rules
pub use Rattle.cc_types.specs.Scope
pub use Rattle.cc_types.specs.Typed
pub use Rattle.cc_types.specs.Types
pub use Rattle.cc_types.specs.declared.rule
