-- Each turn makes one row.
use Rattle.std.proofs.Common.{◌<◌, ◌++◌, [], length, set, get_or, sym, ap, ◌∙◌, subst, arith, All}
use Rattle.std.specs.Prelude.{IsSome}
use Rattle.std.proofs.lemmas.Option.{get_or_from_slice_get}
use Rattle.cc_rtl_language.specs.Code.{node_of}
use Rattle.cc_rtl_language.specs.Rtl.{Labelled, node_at, successors}
use Rattle.cc_rtl_language.specs.Positions.{graph_of}
use Rattle.cc_rtl_language.proofs.Places.{Rows, row_more, rows_done, no_rows, long_graph, row_of_graph, lead_inside}
use Rattle.cc_rtl_language.proofs.positions.graph.Goals as goal

pub loop-at-init : goal.loop-at-init
loop-at-init c =
    let ns = c.args.rtl.now.nodes in
    let n = c.len-count.ensures.count in
    subst (λ g. Rows (graph_of ns) g 0) (sym c.in_ok-graph.ensures) (no_rows (graph_of ns) c.len-count.result (n ∙ sym (long_graph ns)))

pub add_edges-requires-clause-inside : goal.add_edges-requires-clause-inside
add_edges-requires-clause-inside c =
    let ns = c.args.rtl.now.nodes in
    let at = c.loop-at.at in
    let n : Labelled = record { label = at; node = node_of c.node.result.now } in
    let here : at < length ns = let e = c.len-count.ensures.count in omega arith in
    subst (λ m. All (λ s. IsSome (node_at ns s)) (successors m.node)) (get_or_from_slice_get ns at n n c.node.ensures) (lead_inside c.args.rtl.now c.len-count.ensures.rtl at n here)

pub add_edges-requires-clause-long : goal.add_edges-requires-clause-long
add_edges-requires-clause-long c = c.loop-at.invariant.long ∙ long_graph c.args.rtl.now.nodes

pub add_edges-requires-clause-at : goal.add_edges-requires-clause-at
add_edges-requires-clause-at c = let l = c.loop-at.invariant.long in let m = long_graph c.args.rtl.now.nodes in let e = c.len-count.ensures.count in omega (arith, l, m, e)

pub loop-at-preserved : goal.loop-at-preserved
loop-at-preserved c =
    let ns = c.args.rtl.now.nodes in
    let whole = graph_of ns in
    let at = c.loop-at.at in
    let n : Labelled = record { label = at; node = node_of c.node.result.now } in
    let row = sym (row_of_graph ns at n c.node.ensures) in
    row_more whole c.loop-at.graph c.add_edges.new.graph at c.loop-at.invariant (let m = long_graph ns in let e = c.len-count.ensures.count in omega (arith, m, e))
    (c.in_ok-add_edges.ensures ∙ ap (λ r. set c.loop-at.graph at (get_or c.loop-at.graph at [] ++ r)) row)

pub returns : goal.returns
returns c = rows_done (graph_of c.args.rtl.now.nodes) c.loop-at.graph c.loop-at.at c.loop-at.invariant (let m = long_graph c.args.rtl.now.nodes in let e = c.len-count.ensures.count in omega (arith, m, e))
