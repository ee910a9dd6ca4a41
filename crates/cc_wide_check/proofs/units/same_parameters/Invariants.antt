-- The rests are alike if and only if the lists are.
use Rattle.std.proofs.Common.{◌≡◌, drop}
use Rattle.std.specs.Prelude.{map}
use Rattle.std.specs.Cmp.Lexicographic.{pointwise}
use Rattle.cc_ast.specs.Erase.{parameter_tree}
use Rattle.cc_wide_check.specs.internal.Equal.{equal_parameter}
use Rattle.cc_wide_check.specs.internal.Units.{bare_parameter}
use Rattle.cc_wide_check.proofs.units.same_parameters.Given as goal

abbrev pub invariant-loop-i : goal.invariant-loop-i
invariant-loop-i l = pointwise equal_parameter (map bare_parameter (map parameter_tree (drop l.i l.one))) (map bare_parameter (map parameter_tree (drop l.i l.other))) ≡ pointwise equal_parameter (map bare_parameter (map parameter_tree l.one)) (map bare_parameter (map parameter_tree l.other))
