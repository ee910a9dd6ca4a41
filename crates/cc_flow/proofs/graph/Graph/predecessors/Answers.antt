-- Each node that leads to this one is in this node's row of predecessors.
use Rattle.std.proofs.Common.{sym, ap, ◌∙◌, subst, Contains}
use Rattle.cc_flow.specs.Flow.{successors_of, rows_of}
use Rattle.cc_flow.proofs.graph.Graph.predecessors.Goals as goal

pub returns-clause-leads : goal.returns-clause-leads
returns-clause-leads c = λ p h. subst (λ r. Contains r p) (sym (c.row_at.ensures ∙ ap (λ rows. successors_of (rows_of rows) c.args.node) c.as_slice.ensures.value)) (c.self.invariant.leads p c.args.node (subst (λ g. Contains (successors_of g p) c.args.node) (sym c.self.view_is) h))
