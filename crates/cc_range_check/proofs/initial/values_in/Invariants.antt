use Rattle.std.proofs.Common.{◌≡◌, Some, map, drop}
use Rattle.std.specs.Prelude.{◌&&◌}
use Rattle.cc_ast.specs.Erase.{constant_trees}
use Rattle.cc_ast.specs.Tree.{ConstantExpr}
use Rattle.cc_types.specs.Types.{initial_word}
use Rattle.cc_range_check.specs.Checking.{each_in}
use Rattle.cc_range_check.proofs.initial.values_in.Given as goal

abbrev pub invariant-loop-tree : goal.invariant-loop-tree
invariant-loop-tree l =
    (l.within && each_in l.range (map (λ (c : ConstantExpr). initial_word (Some c)) (constant_trees (drop l.tree-index l.trees))))
    ≡ each_in l.range (map (λ (c : ConstantExpr). initial_word (Some c)) (constant_trees l.trees))
