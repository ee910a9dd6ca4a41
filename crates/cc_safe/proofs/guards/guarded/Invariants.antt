-- Each function found so far needs a guard, and each other function so far has code that needs none.
use Rattle.std.proofs.Common.{◌<◌, ℕ, ◌⊎◌, Contains}
use Rattle.std.specs.Prelude.{All}
use Rattle.std.specs.Arc.{arc_value}
use Rattle.cc_ast.specs.Source.{source}
use Rattle.cc_cminor_language.specs.Cminor.{Statement}
use Rattle.cc_guard.specs.Safe.{NeedsNoGuard}
use Rattle.cc_safe.specs.Safe.{NeedsGuard}
use Rattle.cc_safe.proofs.guards.guarded.Given as goal

abbrev pub invariant-loop-function : goal.invariant-loop-function
invariant-loop-function l =
    let unit = (source (arc_value l.unit)).externals in
    All (NeedsGuard unit) l.found.items
    × ((f : ℕ) → f < l.function → Contains l.found.items f ⊎ ((s : Statement) × NeedsNoGuard unit f s))
