-- The external declarations are resolved one after another.
use Rattle.std.proofs.Common.{refl, subst, ap, arith}
use Rattle.std.proofs.lemmas.List.{drop_all}
use Rattle.cc_ast.specs.Erase.{external_tree, external_trees}
use Rattle.cc_layout.specs.Layout.{layout_of}
use Rattle.cc_meaning.specs.internal.Form.{unit_functions}
use Rattle.cc_types.proofs.Items.{drop-item}
use Rattle.cc_meaning.proofs.WritingUnits.{Resolving, Resolving-first, Resolving-next, Resolving-last}
use Rattle.cc_meaning.proofs.writer.units.resolve_externals.Goals as goal

pub loop-tree-init : goal.loop-tree-init
loop-tree-init c =
    Resolving-first (external_trees c.args.trees.now) (layout_of (external_trees c.args.trees.now)) c.args.names.now c.args.code.now.items c.args.entries.now.items c.requires.start refl c.requires.code c.requires.entries

pub loop-tree-preserved : goal.loop-tree-preserved
loop-tree-preserved c =
    let all = external_trees c.args.trees.now in
    let left = drop-item c.args.trees.now c.loop-tree.tree-index c.tree-item.result c.loop-tree-test.true c.tree-item.is in
    let before = subst (λ es. Resolving (layout_of all) (unit_functions all) c.loop-tree.names c.loop-tree.code.items c.loop-tree.entries.items (external_trees es)) left c.loop-tree.invariant in
    Resolving-next _ _ _ _ _ (external_tree c.tree-item.result) _ _ _ _ before c.in_ok-resolve_external.ensures.names c.in_ok-resolve_external.ensures.code c.in_ok-resolve_external.ensures.entries

pub returns-clause-code : goal.returns-clause-code
returns-clause-code c =
    let left = ap external_trees (drop_all c.loop-tree.tree-index c.args.trees.now (omega (arith, c.loop-tree-test.false))) in
    (Resolving-last (external_trees c.args.trees.now) c.loop-tree.names c.loop-tree.code.items c.loop-tree.entries.items _ c.loop-tree.invariant left).0

pub returns-clause-entries : goal.returns-clause-entries
returns-clause-entries c =
    let left = ap external_trees (drop_all c.loop-tree.tree-index c.args.trees.now (omega (arith, c.loop-tree-test.false))) in
    (Resolving-last (external_trees c.args.trees.now) c.loop-tree.names c.loop-tree.code.items c.loop-tree.entries.items _ c.loop-tree.invariant left).1
