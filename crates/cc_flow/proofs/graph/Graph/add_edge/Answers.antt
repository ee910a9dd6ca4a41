-- The new edge is there in both directions; if memory ran out in between, only its predecessor is noted.
use Rattle.std.proofs.Common.{◌<◌, length, sym, subst}
use Rattle.cc_flow.specs.internal.Edges.{AreEdges}
use Rattle.cc_flow.specs.Flow.{rows_of}
use Rattle.cc_flow.proofs.Edges.{with_predecessor, with_edge, more_in}
use Rattle.cc_flow.proofs.graph.Graph.add_edge.Goals as goal

pub invariant_of-self-in_err-push_in-2 : goal.invariant_of-self-in_err-push_in-2
invariant_of-self-in_err-push_in-2 c =
    let s = rows_of c.self.inside.successors.items in
    let p = rows_of c.self.inside.predecessors.items in
    let f : c.args.from < length s = subst (λ g. c.args.from < length g) (sym c.self.view_is) c.requires.from in
    let t : c.args.to < length s = subst (λ g. c.args.to < length g) (sym c.self.view_is) c.requires.to in
    subst (λ r. AreEdges r (rows_of c.push_in.new.rows.items)) (sym c.in_err-push_in-2.ensures.leaves) (subst (AreEdges s) (sym c.in_ok-push_in.ensures.added) (with_predecessor s p c.args.from c.args.to f t c.self.invariant))

pub invariant_of-self-2 : goal.invariant_of-self-2
invariant_of-self-2 c =
    let s = rows_of c.self.inside.successors.items in
    let p = rows_of c.self.inside.predecessors.items in
    let f : c.args.from < length s = subst (λ g. c.args.from < length g) (sym c.self.view_is) c.requires.from in
    let t : c.args.to < length s = subst (λ g. c.args.to < length g) (sym c.self.view_is) c.requires.to in
    subst (λ r. AreEdges r (rows_of c.push_in.new.rows.items)) (sym c.in_ok-push_in-2.ensures.added) (subst (AreEdges (more_in s c.args.from c.args.to)) (sym c.in_ok-push_in.ensures.added) (with_edge s p c.args.from c.args.to f t c.self.invariant))
