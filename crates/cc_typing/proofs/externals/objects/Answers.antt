-- The objects are checked one by one.
use Rattle.std.proofs.Common.{subst}
use Rattle.cc_ast.specs.Erase.{object_tree, object_trees}
use Rattle.cc_typing.proofs.FileScopes.{Objecting, Objecting-next}
use Rattle.cc_types.proofs.Items.{drop-item}
use Rattle.cc_typing.proofs.externals.objects.Goals as goal

pub loop-tree-preserved : goal.loop-tree-preserved
loop-tree-preserved c =
    let left = drop-item c.args.trees.now c.loop-tree.tree-index c.tree-item.result c.loop-tree-test.true c.tree-item.is in
    let before = subst (λ os. Objecting c.args.scalar c.args.scope.now c.args.findings.now (object_trees c.args.trees.now) c.loop-tree.scope c.loop-tree.findings (object_trees os)) left c.loop-tree.invariant in
    Objecting-next _ _ _ _ _ _ (object_tree c.tree-item.result) _ _ _ before c.in_ok-object.ensures.scope c.in_ok-object.ensures.found
