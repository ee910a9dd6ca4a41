-- Each turn adds the words of one more declaration.
use Rattle.std.proofs.Common.{◌≡◌, ◌+◌, ◌++◌, List, ℕ, drop, ap, subst, ◌∙◌}
use Rattle.cc_ast.specs.Erase.{external_tree, external_trees}
use Rattle.cc_types.specs.Limits.{objects}
use Rattle.cc_types.proofs.Items.{drop-item}
use Rattle.cc_link.specs.Packed.{image_words}
use Rattle.cc_link.proofs.Packing.{declaration_more}
use Rattle.cc_link.proofs.globals.image_words.Goals as goal

pub loop-tree-preserved : goal.loop-tree-preserved
loop-tree-preserved c =
    let all = image_words (objects (external_trees c.args.trees.now)) in
    let left = drop-item c.args.trees.now c.loop-tree.tree-index c.tree-item.result c.loop-tree-test.true c.tree-item.is in
    let before = subst (λ es. c.loop-tree.words.items ++ image_words (objects (external_trees es)) ≡ all) left c.loop-tree.invariant in
    let rest = external_trees (drop (c.loop-tree.tree-index + 1) c.args.trees.now) in
    ap (λ (l : List ℕ). l ++ image_words (objects rest)) (c.in_ok-add_external.ensures)
    ∙ declaration_more (external_tree c.tree-item.result) rest c.loop-tree.words.items all before
