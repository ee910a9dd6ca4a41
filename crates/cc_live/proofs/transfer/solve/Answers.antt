-- The solver's answer is the least live sets.
use Rattle.std.proofs.Common.{◌∙◌, ap, sym, subst, ℕ, List, length}
use Rattle.cc_flow.specs.Flow.{facts_at, Solves, LiesUnder}
use Rattle.cc_live.specs.Rows.{rows_at}
use Rattle.cc_live.specs.internal.Facts.{Below, nothing, either, carries, AreLeastAs}
use Rattle.cc_live.proofs.Solved.{least_solved, graph_length}
use Rattle.cc_live.proofs.transfer.solve.Goals as goal

pub returns-clause-least : goal.returns-clause-least
returns-clause-least c =
    let rtl = c.args.rtl.now in
    let strong = c.args.strong in
    let sets = c.in_ok-least.least in
    subst (λ (rows : List (List ℕ)). AreLeastAs strong rtl.nodes (rows_at rtl.nodes rows)) (sym c.into_vec.ensures)
    (least_solved strong rtl c.len-kept.ensures.rtl sets
    (c.in_ok-least.ensures.long ∙ (ap length c.in_ok-graph.ensures ∙ graph_length rtl.nodes))
    (subst (λ g. Solves Below nothing either (carries strong rtl.nodes) g (facts_at nothing sets)) c.in_ok-graph.ensures c.in_ok-least.ensures.solves)
    (subst (λ g. (other : ℕ → List ℕ) → Solves Below nothing either (carries strong rtl.nodes) g other → LiesUnder Below (facts_at nothing sets) other) c.in_ok-graph.ensures c.in_ok-least.ensures.least))
