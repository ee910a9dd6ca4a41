use Rattle.std.proofs.Common.{◌≡◌, ◌++◌, List, drop}
use Rattle.std.specs.Prelude.{◌&&◌}
use Rattle.cc_ast.specs.Erase.{object_trees}
use Rattle.cc_ast.specs.Tree.{Object}
use Rattle.cc_range_check.specs.Checking.{start_within}
use Rattle.cc_range_check.proofs.initial.objects_start.Given as goal

-- the objects so far start in their ranges, and so do the rest
abbrev pub invariant-loop-tree : goal.invariant-loop-tree
invariant-loop-tree l = (rest : List Object) → (l.next.within && start_within l.next.object l.ranges (object_trees (drop l.tree-index l.trees) ++ rest)) ≡ (l.fn.first.within && start_within l.fn.first.object l.ranges (object_trees l.trees ++ rest))
