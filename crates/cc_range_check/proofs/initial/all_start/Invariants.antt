use Rattle.std.proofs.Common.{◌≡◌, drop}
use Rattle.std.specs.Prelude.{◌&&◌}
use Rattle.cc_ast.specs.Erase.{external_trees}
use Rattle.cc_types.specs.Limits.{objects}
use Rattle.cc_range_check.specs.Checking.{start_within}
use Rattle.cc_range_check.proofs.initial.all_start.Given as goal

abbrev pub invariant-loop-tree : goal.invariant-loop-tree
invariant-loop-tree l = (l.next.within && start_within l.next.object l.ranges (objects (external_trees (drop l.tree-index l.trees)))) ≡ start_within 0 l.ranges (objects (external_trees l.trees))
