-- The parameters are checked one by one.
use Rattle.std.proofs.Common.{subst}
use Rattle.cc_ast.specs.Erase.{parameter_tree, parameter_trees}
use Rattle.cc_typing.proofs.FileScopes.{Parametering, Parametering-next}
use Rattle.cc_types.proofs.Items.{drop-item}
use Rattle.cc_typing.proofs.externals.parameters.Goals as goal

pub loop-tree-preserved : goal.loop-tree-preserved
loop-tree-preserved c =
    let left = drop-item c.args.trees.now c.loop-tree.tree-index c.tree-item.result c.loop-tree-test.true c.tree-item.is in
    let before = subst (λ ps. Parametering c.args.scope.now c.args.findings.now (parameter_trees c.args.trees.now) c.loop-tree.scope c.loop-tree.findings (parameter_trees ps)) left c.loop-tree.invariant in
    Parametering-next _ _ _ _ _ (parameter_tree c.tree-item.result) _ _ _ before c.in_ok-parameter.ensures.scope c.in_ok-parameter.ensures.found
