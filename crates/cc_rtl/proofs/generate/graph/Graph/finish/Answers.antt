-- Nodes are moved place by place, from the first in the list to the last.
use Rattle.std.proofs.Common.{◌+◌, ◌++◌, ◌∷◌, [], ◌∙◌, Some, None, ap, sym}
use Rattle.cc_instr_list.specs.List.{entry, listed}
use Rattle.cc_rtl.proofs.Making.{turns-start, turns-some, turns-none, first_out, no_node}
use Rattle.cc_rtl.proofs.generate.graph.Graph.finish.Goals as goal

pub loop-place-init : goal.loop-place-init
loop-place-init c = turns-start c.args.last c.args.self c.new-nodes.result c.self.inside.places.entries c.new-nodes.ensures c.self.view_is c.requires

pub loop-place-preserved-in_ok-push_back : goal.loop-place-preserved-in_ok-push_back
loop-place-preserved-in_ok-push_back c =
    let nodes = c.loop-place.nodes in
    let added = c.in_ok-push_back.ensures.added in
    turns-some c.args.last c.args.self nodes c.push_back.new.self c.loop-place.places.entries c.unlink.new.self.entries c.in-Some.place c.in-Some-unlink.node c.turn.new.node c.loop-place.invariant
    (first_out c.loop-place.places.entries c.in-Some.place (Some c.in-Some-unlink.node) (sym c.in-Some.ensures) c.in-Some-unlink.ensures.item ∙ ap (λ l. entry c.in-Some.place (Some c.in-Some-unlink.node) ∷ l.entries) (sym c.unlink.ensures.list))
    c.turn.ensures (added.1 ∙ ap (λ k. listed (nodes.given + 1) (nodes.entries ++ entry k c.turn.new.node ∷ [])) added.0)

pub loop-place-preserved : goal.loop-place-preserved
loop-place-preserved c =
    turns-none c.args.last c.args.self c.loop-place.nodes c.loop-place.places.entries c.unlink.new.self.entries c.in-Some.place c.loop-place.invariant
    (first_out c.loop-place.places.entries c.in-Some.place None (sym c.in-Some.ensures) (c.unlink.ensures.item ∙ ap (λ o. Some o) (no_node c.unlink.result c.in_default-unlink.not-Some))
    ∙ ap (λ l. entry c.in-Some.place None ∷ l.entries) (sym c.unlink.ensures.list))
