-- The tables are what each step requires, and the list is made from the function.
use Rattle.std.proofs.Common.{◌≡◌, ap, sym, subst, ◌∙◌}
use Rattle.std.proofs.lemmas.Result.{IfOk-weaker}
use Rattle.cc_linear.specs.internal.Ends.{HasEnds}
use Rattle.cc_linear.specs.internal.Layout.{leads, laid}
use Rattle.cc_linear.specs.internal.Places.{labels_of, next_places, end_place, end_in, graph_of, labels_at}
use Rattle.cc_linear.specs.internal.Whole.{IsMadeOf}
use Rattle.std.specs.List.{Contains}
use Rattle.cc_linear.proofs.Whole.{labels_here, leads_here, entry_here, nexts_inside, ends_long, ends_within, in_graph, entry_inside, made_of}
use Rattle.cc_linear.proofs.lineariser.items_of.Goals as goal

pub next_places-requires-clause-labels : goal.next_places-requires-clause-labels
next_places-requires-clause-labels c = labels_here c.args.ltl.now c.as_slice-labels.result.now c.blocks-blocks.result.now c.blocks-blocks.ensures.ltl.ascend c.blocks-blocks.ensures.blocks (c.as_slice-labels.ensures.value ∙ c.in_ok-names.ensures)

pub next_places-requires-clause-leads : goal.next_places-requires-clause-leads
next_places-requires-clause-leads c = leads_here c.args.ltl.now c.as_slice-labels.result.now c.blocks-blocks.result.now c.blocks-blocks.ensures.ltl.ascend c.requires.leads c.blocks-blocks.ensures.blocks (c.as_slice-labels.ensures.value ∙ c.in_ok-names.ensures)

pub chain_ends-requires : goal.chain_ends-requires
chain_ends-requires c = record { inside = nexts_inside c.as_slice-labels.result.now c.deref.result.now c.blocks-blocks.result.now (c.as_slice-labels.ensures.value ∙ c.in_ok-names.ensures) (c.deref.ensures.value ∙ c.in_ok-nexts.ensures) (leads_here c.args.ltl.now c.as_slice-labels.result.now c.blocks-blocks.result.now c.blocks-blocks.ensures.ltl.ascend c.requires.leads c.blocks-blocks.ensures.blocks (c.as_slice-labels.ensures.value ∙ c.in_ok-names.ensures)) }

pub graph-requires-clause-labels : goal.graph-requires-clause-labels
graph-requires-clause-labels c = labels_here c.args.ltl.now c.as_slice-labels.result.now c.blocks-blocks.result.now c.blocks-blocks.ensures.ltl.ascend c.blocks-blocks.ensures.blocks (c.as_slice-labels.ensures.value ∙ c.in_ok-names.ensures)

pub graph-requires-clause-leads : goal.graph-requires-clause-leads
graph-requires-clause-leads c = leads_here c.args.ltl.now c.as_slice-labels.result.now c.blocks-blocks.result.now c.blocks-blocks.ensures.ltl.ascend c.requires.leads c.blocks-blocks.ensures.blocks (c.as_slice-labels.ensures.value ∙ c.in_ok-names.ensures)

pub graph-requires-clause-long : goal.graph-requires-clause-long
graph-requires-clause-long c = ends_long c.as_slice-labels.result.now c.deref.result.now c.in_ok-table.table.items c.as_slice-ends.result.now c.blocks-blocks.result.now (c.as_slice-labels.ensures.value ∙ c.in_ok-names.ensures) (c.deref.ensures.value ∙ c.in_ok-nexts.ensures) c.in_ok-table.ensures.long c.as_slice-ends.ensures.value

pub end_of-entry-requires-clause-labels : goal.end_of-entry-requires-clause-labels
end_of-entry-requires-clause-labels c = labels_here c.args.ltl.now c.as_slice-labels.result.now c.blocks-blocks.result.now c.blocks-blocks.ensures.ltl.ascend c.blocks-blocks.ensures.blocks (c.as_slice-labels.ensures.value ∙ c.in_ok-names.ensures)

pub end_of-entry-requires-clause-there : goal.end_of-entry-requires-clause-there
end_of-entry-requires-clause-there c = entry_here c.args.ltl.now c.as_slice-labels.result.now c.blocks-blocks.result.now c.entry.result c.requires.begins c.blocks-blocks.ensures.blocks (c.as_slice-labels.ensures.value ∙ c.in_ok-names.ensures) c.entry.ensures

pub end_of-entry-requires-clause-long : goal.end_of-entry-requires-clause-long
end_of-entry-requires-clause-long c = ends_long c.as_slice-labels.result.now c.deref.result.now c.in_ok-table.table.items c.as_slice-ends.result.now c.blocks-blocks.result.now (c.as_slice-labels.ensures.value ∙ c.in_ok-names.ensures) (c.deref.ensures.value ∙ c.in_ok-nexts.ensures) c.in_ok-table.ensures.long c.as_slice-ends.ensures.value

pub order-requires-clause-graph : goal.order-requires-clause-graph
order-requires-clause-graph c = in_graph c.as_slice-labels.result.now c.as_slice-ends.result.now c.deref-2.result.now c.blocks-blocks.result.now (c.as_slice-labels.ensures.value ∙ c.in_ok-names.ensures) (ends_long c.as_slice-labels.result.now c.deref.result.now c.in_ok-table.table.items c.as_slice-ends.result.now c.blocks-blocks.result.now (c.as_slice-labels.ensures.value ∙ c.in_ok-names.ensures) (c.deref.ensures.value ∙ c.in_ok-nexts.ensures) c.in_ok-table.ensures.long c.as_slice-ends.ensures.value) (ends_within c.as_slice-labels.result.now c.deref.result.now c.in_ok-table.table.items c.as_slice-ends.result.now c.blocks-blocks.result.now (c.as_slice-labels.ensures.value ∙ c.in_ok-names.ensures) (c.deref.ensures.value ∙ c.in_ok-nexts.ensures) c.in_ok-table.ensures.inside c.as_slice-ends.ensures.value) (leads_here c.args.ltl.now c.as_slice-labels.result.now c.blocks-blocks.result.now c.blocks-blocks.ensures.ltl.ascend c.requires.leads c.blocks-blocks.ensures.blocks (c.as_slice-labels.ensures.value ∙ c.in_ok-names.ensures)) (c.deref-2.ensures.value ∙ c.in_ok-graph.ensures)

pub order-requires-clause-entry : goal.order-requires-clause-entry
order-requires-clause-entry c = entry_inside c.as_slice-labels.result.now c.as_slice-ends.result.now c.deref-2.result.now c.blocks-blocks.result.now c.entry.result c.end_of-entry.result (c.as_slice-labels.ensures.value ∙ c.in_ok-names.ensures) (ends_long c.as_slice-labels.result.now c.deref.result.now c.in_ok-table.table.items c.as_slice-ends.result.now c.blocks-blocks.result.now (c.as_slice-labels.ensures.value ∙ c.in_ok-names.ensures) (c.deref.ensures.value ∙ c.in_ok-nexts.ensures) c.in_ok-table.ensures.long c.as_slice-ends.ensures.value) (ends_within c.as_slice-labels.result.now c.deref.result.now c.in_ok-table.table.items c.as_slice-ends.result.now c.blocks-blocks.result.now (c.as_slice-labels.ensures.value ∙ c.in_ok-names.ensures) (c.deref.ensures.value ∙ c.in_ok-nexts.ensures) c.in_ok-table.ensures.inside c.as_slice-ends.ensures.value) (c.deref-2.ensures.value ∙ c.in_ok-graph.ensures) (entry_here c.args.ltl.now c.as_slice-labels.result.now c.blocks-blocks.result.now c.entry.result c.requires.begins c.blocks-blocks.ensures.blocks (c.as_slice-labels.ensures.value ∙ c.in_ok-names.ensures) c.entry.ensures) c.end_of-entry.ensures

pub lay_out-requires-clause-labels : goal.lay_out-requires-clause-labels
lay_out-requires-clause-labels c = labels_here c.args.ltl.now c.as_slice-labels.result.now c.blocks-blocks.result.now c.blocks-blocks.ensures.ltl.ascend c.blocks-blocks.ensures.blocks (c.as_slice-labels.ensures.value ∙ c.in_ok-names.ensures)

pub lay_out-requires-clause-leads : goal.lay_out-requires-clause-leads
lay_out-requires-clause-leads c = leads_here c.args.ltl.now c.as_slice-labels.result.now c.blocks-blocks.result.now c.blocks-blocks.ensures.ltl.ascend c.requires.leads c.blocks-blocks.ensures.blocks (c.as_slice-labels.ensures.value ∙ c.in_ok-names.ensures)

pub lay_out-requires-clause-entry : goal.lay_out-requires-clause-entry
lay_out-requires-clause-entry c = entry_here c.args.ltl.now c.as_slice-labels.result.now c.blocks-blocks.result.now c.entry-2.result c.requires.begins c.blocks-blocks.ensures.blocks (c.as_slice-labels.ensures.value ∙ c.in_ok-names.ensures) c.entry-2.ensures

pub lay_out-requires-clause-long : goal.lay_out-requires-clause-long
lay_out-requires-clause-long c = ends_long c.as_slice-labels.result.now c.deref.result.now c.in_ok-table.table.items c.as_slice-ends.result.now c.blocks-blocks.result.now (c.as_slice-labels.ensures.value ∙ c.in_ok-names.ensures) (c.deref.ensures.value ∙ c.in_ok-nexts.ensures) c.in_ok-table.ensures.long c.as_slice-ends.ensures.value

pub lay_out-requires-clause-inside : goal.lay_out-requires-clause-inside
lay_out-requires-clause-inside c = ends_within c.as_slice-labels.result.now c.deref.result.now c.in_ok-table.table.items c.as_slice-ends.result.now c.blocks-blocks.result.now (c.as_slice-labels.ensures.value ∙ c.in_ok-names.ensures) (c.deref.ensures.value ∙ c.in_ok-nexts.ensures) c.in_ok-table.ensures.inside c.as_slice-ends.ensures.value

pub returns : goal.returns
returns c =
    let ltl = c.args.ltl.now in
    let labels = c.as_slice-labels.result.now in
    let ends = c.as_slice-ends.result.now in
    let order = c.in_ok-order.order.items in
    let same : labels ≡ labels_of ltl.blocks = (c.as_slice-labels.ensures.value ∙ c.in_ok-names.ensures) ∙ ap labels_of c.blocks-blocks.ensures.blocks in
    let nexts_are : c.deref.result.now ≡ next_places labels 0 ltl.blocks = (c.deref.ensures.value ∙ c.in_ok-nexts.ensures) ∙ ap (next_places labels 0) c.blocks-blocks.ensures.blocks in
    let graph_is : c.deref-2.result.now ≡ graph_of labels ends ltl.blocks = (c.deref-2.ensures.value ∙ c.in_ok-graph.ensures) ∙ ap (graph_of labels ends) c.blocks-blocks.ensures.blocks in
    let entry = subst (Contains order) (c.end_of-entry.ensures ∙ ap (end_place labels ends) c.entry.ensures) c.in_ok-order.ensures.entry in
    let code_is : c.deref-4.result.now ≡ leads (end_in labels ends ltl.entry) (labels_at labels order) (laid ltl.blocks (end_in labels ends) (labels_at labels order)) =
    c.deref-4.ensures.value ∙ c.in_ok-items.ensures ∙ ap (λ e. leads (end_in labels ends e) (labels_at labels c.deref-3.result.now) (laid c.blocks-blocks.result.now (end_in labels ends) (labels_at labels c.deref-3.result.now))) c.entry-2.ensures
    ∙ ap (λ bs. leads (end_in labels ends ltl.entry) (labels_at labels c.deref-3.result.now) (laid bs (end_in labels ends) (labels_at labels c.deref-3.result.now))) c.blocks-blocks.ensures.blocks
    ∙ ap (λ o. leads (end_in labels ends ltl.entry) (labels_at labels o) (laid ltl.blocks (end_in labels ends) (labels_at labels o))) c.deref-3.ensures.value in
    IfOk-weaker c.without_idle.result _ (λ items. IsMadeOf ltl items.items)
    (λ items e. made_of ltl labels c.deref.result.now ends c.deref-2.result.now order c.deref-4.result.now items.items c.blocks-blocks.ensures.ltl.ascend same nexts_are (subst (HasEnds c.deref.result.now) (sym c.as_slice-ends.ensures.value) c.in_ok-table.ensures.ends) graph_is c.in_ok-order.ensures.distinct c.in_ok-order.ensures.inside entry c.in_ok-order.ensures.closed code_is e)
    c.without_idle.ensures
