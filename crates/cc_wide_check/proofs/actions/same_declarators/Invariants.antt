-- The rests are alike if and only if the lists are.
use Rattle.std.proofs.Common.{◌≡◌, drop}
use Rattle.std.specs.Cmp.Lexicographic.{pointwise}
use Rattle.cc_ast.specs.Erase.{declarator_trees}
use Rattle.cc_wide.specs.Places.{bare_declarators}
use Rattle.cc_wide_check.specs.internal.Equal.{equal_declarator}
use Rattle.cc_wide_check.proofs.actions.same_declarators.Given as goal

abbrev pub invariant-loop-i : goal.invariant-loop-i
invariant-loop-i l = pointwise equal_declarator (bare_declarators (declarator_trees (drop l.i l.one))) (bare_declarators (declarator_trees (drop l.i l.other))) ≡ pointwise equal_declarator (bare_declarators (declarator_trees l.one)) (bare_declarators (declarator_trees l.other))
