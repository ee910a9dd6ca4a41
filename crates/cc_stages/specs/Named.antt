-- The names of functions.
use Rattle.std.specs.Prelude.{ℕ, ◌≡◌, List, Some, slice_get}
use Rattle.cc_ast.specs.Tree.{Source}
use Rattle.cc_types.specs.Typed.{defined_names}

-- the unit defines a function with this name
abbrev pub IsDefined : Source → (name : List ℕ) → Type 0
IsDefined s name = (f : ℕ) × (slice_get (defined_names s) f ≡ Some name)
