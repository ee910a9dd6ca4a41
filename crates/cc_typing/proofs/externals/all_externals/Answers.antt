-- The declarations are checked one by one.
use Rattle.std.proofs.Common.{◌≡◌, [], ap, subst, drop}
use Rattle.std.proofs.Math.ListN.{drop_of_length-le}
use Rattle.cc_ast.specs.Erase.{external_tree, external_trees}
use Rattle.cc_typing.specs.internal.Findings.{Found}
use Rattle.cc_typing.proofs.FileScopes.{Declaring, Declaring-next}
use Rattle.cc_types.proofs.Items.{drop-item}
use Rattle.cc_typing.proofs.externals.all_externals.Goals as goal

pub loop-tree-preserved : goal.loop-tree-preserved
loop-tree-preserved c =
    let left = drop-item c.args.trees.now c.loop-tree.tree-index c.tree-item.result c.loop-tree-test.true c.tree-item.is in
    let before = subst (λ es. Declaring c.args.scope.now c.args.findings.now (external_trees c.args.trees.now) c.loop-tree.scope c.loop-tree.findings (external_trees es)) left c.loop-tree.invariant in
    Declaring-next _ _ _ _ _ (external_tree c.tree-item.result) _ _ _ before c.in_ok-external.ensures.scope c.in_ok-external.ensures.found

pub returns-clause-first : goal.returns-clause-first
returns-clause-first c =
    let nothing : drop c.loop-tree.tree-index c.args.trees.now ≡ [] = drop_of_length-le c.args.trees.now c.loop-tree-test.false in
    let whole = subst (λ es. Declaring c.args.scope.now c.args.findings.now (external_trees c.args.trees.now) c.loop-tree.scope c.loop-tree.findings (external_trees es)) nothing c.loop-tree.invariant in
    ap (λ (f : Found). f.first) whole.found

pub returns-clause-undefined : goal.returns-clause-undefined
returns-clause-undefined c =
    let nothing : drop c.loop-tree.tree-index c.args.trees.now ≡ [] = drop_of_length-le c.args.trees.now c.loop-tree-test.false in
    let whole = subst (λ es. Declaring c.args.scope.now c.args.findings.now (external_trees c.args.trees.now) c.loop-tree.scope c.loop-tree.findings (external_trees es)) nothing c.loop-tree.invariant in
    ap (λ (f : Found). f.undefined) whole.found
