-- The values are checked one by one.
use Rattle.std.proofs.Common.{◌+◌, ap, drop}
use Rattle.cc_ast.specs.Erase.{constant_tree, constant_trees}
use Rattle.cc_types.specs.Rules.{constant_errors, constants_errors, called_in_constant, called_in_constants}
use Rattle.cc_types.specs.Scope.{in_scope}
use Rattle.cc_typing.proofs.Parts.{next}
use Rattle.cc_types.proofs.Items.{drop-item}
use Rattle.cc_typing.proofs.externals.constants.Goals as goal

pub loop-tree-preserved : goal.loop-tree-preserved
loop-tree-preserved c =
    let bs = in_scope c.args.scope.now in
    let left = drop-item c.args.trees.now c.loop-tree.tree-index c.tree-item.result c.loop-tree-test.true c.tree-item.is in
    let tree = constant_tree c.tree-item.result in
    let rest = constant_trees (drop (c.loop-tree.tree-index + 1) c.args.trees.now) in
    next c.loop-tree.findings c.constant.new.findings _ (constant_errors bs tree) (constants_errors bs rest) _ (called_in_constant tree) (called_in_constants rest) _ c.loop-tree.invariant
    (ap (λ l. constants_errors bs (constant_trees l)) left) (ap (λ l. called_in_constants (constant_trees l)) left) c.constant.ensures
