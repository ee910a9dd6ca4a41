-- If the rest pass, all pass.
use Rattle.std.proofs.Common.{◌<◌, drop}
use Rattle.cc_ast.specs.Erase.{statements_of}
use Rattle.cc_depth.specs.Cycles.{InStatements}
use Rattle.cc_safe.specs.internal.Ranks.{rank_by}
use Rattle.cc_safe.proofs.calls.+statements.Given as goal

abbrev pub invariant-in_statements-loop-s : goal.invariant-in_statements-loop-s
invariant-in_statements-loop-s l =
    InStatements (λ g. rank_by l.layout l.table g < l.limit) (statements_of (drop l.s-index l.all)) → InStatements (λ g. rank_by l.layout l.table g < l.limit) (statements_of l.all)
