-- If the rest pass, all pass.
use Rattle.std.proofs.Common.{◌<◌, drop}
use Rattle.cc_ast.specs.Erase.{declarator_trees}
use Rattle.cc_depth.specs.Cycles.{InDeclarators}
use Rattle.cc_safe.specs.internal.Ranks.{rank_by}
use Rattle.cc_safe.proofs.calls.in_declarators.Given as goal

abbrev pub invariant-loop-declarator : goal.invariant-loop-declarator
invariant-loop-declarator l =
    InDeclarators (λ g. rank_by l.layout l.table g < l.limit) (declarator_trees (drop l.declarator-index l.all)) → InDeclarators (λ g. rank_by l.layout l.table g < l.limit) (declarator_trees l.all)
