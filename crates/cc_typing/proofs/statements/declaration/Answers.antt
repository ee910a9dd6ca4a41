-- The names are checked one by one.
use Rattle.std.proofs.Common.{subst}
use Rattle.cc_ast.specs.Erase.{declarator_tree, declarator_trees}
use Rattle.cc_types.proofs.Items.{drop-item}
use Rattle.cc_typing.proofs.Walks.{Declaring, Declaring-next}
use Rattle.cc_typing.proofs.statements.declaration.Goals as goal

pub loop-tree-preserved : goal.loop-tree-preserved
loop-tree-preserved c =
    let left = drop-item c.args.trees.now c.loop-tree.tree-index c.tree-item.result c.loop-tree-test.true c.tree-item.is in
    let before = subst (λ ds. Declaring c.args.scalar c.args.scope.now c.args.findings.now (declarator_trees c.args.trees.now) c.loop-tree.scope c.loop-tree.findings (declarator_trees ds)) left c.loop-tree.invariant in
    Declaring-next _ _ _ _ _ _ (declarator_tree c.tree-item.result) _ _ _ before c.in_ok-declarator.ensures.scope c.in_ok-declarator.ensures.found
