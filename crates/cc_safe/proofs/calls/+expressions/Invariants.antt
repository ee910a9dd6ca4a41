-- If the rest pass, all pass.
use Rattle.std.proofs.Common.{◌<◌, drop}
use Rattle.cc_ast.specs.internal.Arguments.{expressions_of}
use Rattle.cc_depth.specs.Cycles.{InExpressions}
use Rattle.cc_safe.specs.internal.Ranks.{rank_by}
use Rattle.cc_safe.proofs.calls.+expressions.Given as goal

abbrev pub invariant-in_expressions-loop-e : goal.invariant-in_expressions-loop-e
invariant-in_expressions-loop-e l =
    InExpressions (λ g. rank_by l.layout l.table g < l.limit) (expressions_of (drop l.e-index l.all)) → InExpressions (λ g. rank_by l.layout l.table g < l.limit) (expressions_of l.all)
