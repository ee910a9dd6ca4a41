-- The rests are alike if and only if the lists are.
use Rattle.std.proofs.Common.{◌≡◌, drop}
use Rattle.cc_ast.specs.internal.Arguments.{expressions_of}
use Rattle.cc_wide.specs.Places.{all_bare}
use Rattle.cc_wide_check.specs.internal.Equal.{equal_expressions}
use Rattle.cc_wide_check.proofs.expressions.+expressions.Given as goal

abbrev pub invariant-same_expressions-loop-i : goal.invariant-same_expressions-loop-i
invariant-same_expressions-loop-i l = equal_expressions (all_bare (expressions_of (drop l.i l.one))) (all_bare (expressions_of (drop l.i l.other))) ≡ equal_expressions (all_bare (expressions_of l.one)) (all_bare (expressions_of l.other))
