use Rattle.std.proofs.Common.{ap, arith}
use Rattle.cc_ast.specs.Erase.{object_tree, object_trees}
use Rattle.cc_types.proofs.Items.{drop-item}
use Rattle.cc_emit.proofs.Addresses.{next_fits}
use Rattle.cc_emit.proofs.bases.add_bases.Goals as goal

pub overflow_cast-behind : goal.overflow_cast-behind
overflow_cast-behind c =
    let left = ap object_trees (drop-item c.args.trees.now c.loop-tree.tree-index c.tree-item.result c.loop-tree-test.true c.tree-item.is) in
    let fits = next_fits _ _ _ _ _ (object_tree c.tree-item.result) _ _ c.requires left c.loop-tree.invariant in
    omega (arith, fits, c.object_words.ensures)

pub overflow_mul-behind : goal.overflow_mul-behind
overflow_mul-behind c =
    let left = ap object_trees (drop-item c.args.trees.now c.loop-tree.tree-index c.tree-item.result c.loop-tree-test.true c.tree-item.is) in
    let fits = next_fits _ _ _ _ _ (object_tree c.tree-item.result) _ _ c.requires left c.loop-tree.invariant in
    omega (arith, fits, c.object_words.ensures)

pub overflow_add-behind : goal.overflow_add-behind
overflow_add-behind c =
    let left = ap object_trees (drop-item c.args.trees.now c.loop-tree.tree-index c.tree-item.result c.loop-tree-test.true c.tree-item.is) in
    let fits = next_fits _ _ _ _ _ (object_tree c.tree-item.result) _ _ c.requires left c.loop-tree.invariant in
    omega (arith, fits, c.object_words.ensures)
