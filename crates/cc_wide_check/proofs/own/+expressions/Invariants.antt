-- The rest passes if and only if all do.
use Rattle.std.proofs.Common.{◌≡◌, drop}
use Rattle.cc_ast.specs.internal.Arguments.{expressions_of}
use Rattle.cc_wide_check.specs.internal.Lowers.{own_expressions}
use Rattle.cc_wide_check.proofs.own.+expressions.Given as goal

abbrev pub invariant-own_expressions-loop-e : goal.invariant-own_expressions-loop-e
invariant-own_expressions-loop-e l = own_expressions (expressions_of (drop l.e-index l.all)) ≡ own_expressions (expressions_of l.all)
