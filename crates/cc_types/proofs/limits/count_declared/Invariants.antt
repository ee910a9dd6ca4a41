use Rattle.std.proofs.Common.{◌≡◌, drop}
use Rattle.cc_ast.specs.Erase.{declarator_trees}
use Rattle.cc_types.specs.Counts.{count_after}
use Rattle.cc_types.specs.Limits.{declared_names}
use Rattle.cc_types.proofs.limits.count_declared.Given as goal

abbrev pub invariant-loop-declarator : goal.invariant-loop-declarator
invariant-loop-declarator l =
    count_after l.count (declared_names (declarator_trees (drop l.declarator-index l.names))) ≡ count_after l.fn.count (declared_names (declarator_trees l.names))
