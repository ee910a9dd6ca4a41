-- when two identifiers are the same
pub mod Names
-- the types in which operators work, and their values on words
pub mod Operators
-- what names denote, and which names are in scope
pub mod Scope
-- the type of an expression, and the value of a constant expression
pub mod Types
-- the rules of scope and type
pub mod Rules
-- the limits
pub mod Limits
-- how names are counted, up to the number allowed
pub mod Counts
-- the faults: their numbers and places
pub mod Fault
-- which units are typed, and why the others are refused
pub mod Typed
-- the verdict on a text, by parsing and by the check of types
pub mod Verdict
-- what a typed unit guarantees
pub mod Checked
-- the tree of a definition that the code returns
pub mod Defined
-- definitions that only private contracts and proofs use
pub mod internal
