-- Which definitions are surely small enough for code in a mode.
use Rattle.std.specs.Prelude.{◌≡◌, ℕ, ◌<◌, List, length, slice_get, Some}
use Rattle.cc_ast.specs.Tree.{External}
use Rattle.cc_ast.specs.Grammar.{Measured, SpellsExternal}
use Rattle.cc_types.specs.Typed.{definitions}
use Rattle.cc_c_semantics.specs.declared.mode.Mode.{Mode}
use Rattle.cc_c_semantics.specs.declared.mode.Mode.TheVariants.{Plain, Checked}

-- a definition of at most this many tokens is never too large; guards cost nodes and variables
abbrev pub surely_small : Mode → ℕ
surely_small Plain = 256
surely_small Checked = 177

-- the definition of function f has more tokens than that, whichever tokens spell it
abbrev pub IsLongIn : Mode → List External → (f : ℕ) → Type 0
IsLongIn mode unit f = (definition : External) → slice_get (definitions unit) f ≡ Some definition → (tokens : List Measured) → SpellsExternal tokens definition → surely_small mode < length tokens
