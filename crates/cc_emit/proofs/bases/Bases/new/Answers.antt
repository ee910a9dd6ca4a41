use Rattle.std.proofs.Common.{◌+◌, [], drop, ap, ◌∙◌, subst}
use Rattle.std.proofs.lemmas.List.{drop_all}
use Rattle.cc_ast.specs.Erase.{external_trees, object_trees}
use Rattle.cc_types.specs.Limits.{objects}
use Rattle.cc_types.proofs.Items.{drop-item}
use Rattle.cc_rv32.specs.Machine.{globals_from}
use Rattle.cc_emit.proofs.Addresses.{Listing, listing_some, objects_fit, bases_are}
use Rattle.cc_emit.proofs.bases.Bases.new.Goals as goal

pub add_bases-requires : goal.add_bases-requires
add_bases-requires c =
    let left = ap (λ es. objects (external_trees es)) (drop-item c.args.trees.now c.loop-tree.tree-index c.tree-item.result c.loop-tree-test.true c.tree-item.is) ∙ c.objects_of.ensures _ in
    objects_fit (external_trees c.args.trees.now) c.loop-tree.addresses.items c.loop-tree.behind (object_trees c.objects_of.result.now) (objects (external_trees (drop (c.loop-tree.tree-index + 1) c.args.trees.now))) c.requires.limits
    (subst (Listing globals_from (objects (external_trees c.args.trees.now)) [] c.loop-tree.addresses.items c.loop-tree.behind) left c.loop-tree.invariant)

pub loop-tree-preserved : goal.loop-tree-preserved
loop-tree-preserved c =
    let left = ap (λ es. objects (external_trees es)) (drop-item c.args.trees.now c.loop-tree.tree-index c.tree-item.result c.loop-tree-test.true c.tree-item.is) ∙ c.objects_of.ensures _ in
    listing_some (objects (external_trees c.args.trees.now)) c.loop-tree.addresses.items _ _ _ (object_trees c.objects_of.result.now) _
    (subst (Listing globals_from (objects (external_trees c.args.trees.now)) [] c.loop-tree.addresses.items c.loop-tree.behind) left c.loop-tree.invariant) c.in_ok-behind.ensures.bases c.in_ok-behind.ensures.behind

pub returns : goal.returns
returns c = bases_are c.names_have_numbers.ensures.sizes (external_trees c.args.trees.now) c.requires.typed c.loop-tree.addresses.items _ c.loop-tree.behind
    (subst (λ es. Listing globals_from (objects (external_trees c.args.trees.now)) [] c.loop-tree.addresses.items c.loop-tree.behind (objects (external_trees es))) (drop_all c.loop-tree.tree-index c.args.trees.now c.loop-tree-test.false) c.loop-tree.invariant) c.in_ok-push.ensures.items
