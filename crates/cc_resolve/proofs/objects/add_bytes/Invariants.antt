use Rattle.std.proofs.Common.{◌≡◌, ◌%◌, ◌^◌, ◌++◌, Some, map, drop}
use Rattle.cc_ast.specs.Erase.{constant_trees}
use Rattle.cc_ast.specs.Tree.{ConstantExpr}
use Rattle.cc_types.specs.Types.{initial_word}
use Rattle.cc_resolve.proofs.objects.add_bytes.Given as goal

abbrev pub invariant-loop-tree : goal.invariant-loop-tree
invariant-loop-tree l =
    l.words.items ++ map (λ (c : ConstantExpr). initial_word (Some c) % 2 ^ 8) (constant_trees (drop l.tree-index l.trees))
    ≡ l.fn.words.items ++ map (λ (c : ConstantExpr). initial_word (Some c) % 2 ^ 8) (constant_trees l.trees)
