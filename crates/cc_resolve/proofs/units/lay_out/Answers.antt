-- One more external declaration is added.
use Rattle.std.proofs.Common.{subst}
use Rattle.cc_ast.specs.Erase.{external_tree, external_trees}
use Rattle.cc_types.proofs.Items.{drop-item}
use Rattle.cc_resolve.proofs.Behind.{Finding, Finding-next}
use Rattle.cc_resolve.proofs.units.lay_out.Goals as goal

pub loop-tree-preserved : goal.loop-tree-preserved
loop-tree-preserved c =
    let left = drop-item c.args.trees.now c.loop-tree.tree-index c.tree-item.result c.loop-tree-test.true c.tree-item.is in
    let before = subst (λ es. Finding (external_trees c.args.trees.now) c.loop-tree.layout c.loop-tree.words.items c.loop-tree.offset (external_trees es)) left c.loop-tree.invariant in
    Finding-next _ _ _ _ (external_tree c.tree-item.result) _ _ _ _ before c.in_ok-offset.ensures.layout c.in_ok-offset.ensures.words c.in_ok-offset.ensures.behind c.in_ok-offset.ensures.fits
