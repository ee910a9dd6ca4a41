use Rattle.std.proofs.Common.{◌≡◌, ◌<◌, ℕ, Some, slice_get}
use Rattle.cc_ast.specs.Source.{source}
use Rattle.cc_types.specs.Typed.{defined_names}
use Rattle.cc_stages.proofs.unit.number_of.Given as goal

-- no function so far has the name
abbrev pub invariant-loop-function : goal.invariant-loop-function
invariant-loop-function l = (f : ℕ) → f < l.function → ¬ (slice_get (defined_names (source l.unit)) f ≡ Some l.name)
