-- The rests are alike if and only if the lists are.
use Rattle.std.proofs.Common.{◌≡◌, drop}
use Rattle.std.specs.Prelude.{map}
use Rattle.std.specs.Cmp.Lexicographic.{pointwise}
use Rattle.cc_ast.specs.Erase.{constant_trees}
use Rattle.cc_wide.specs.Places.{bare_constant}
use Rattle.cc_wide_check.specs.internal.Equal.{equal_constant}
use Rattle.cc_wide_check.proofs.units.same_constants.Given as goal

abbrev pub invariant-loop-i : goal.invariant-loop-i
invariant-loop-i l = pointwise equal_constant (map bare_constant (constant_trees (drop l.i l.one))) (map bare_constant (constant_trees (drop l.i l.other))) ≡ pointwise equal_constant (map bare_constant (constant_trees l.one)) (map bare_constant (constant_trees l.other))
