-- What comes back from facts below a solution is below the solution, and so is its join with the node's facts.
use Rattle.std.proofs.Common.{◌≡◌, ◌<◌, length, ◌∙◌, sym, subst, arith}
use Rattle.std.proofs.lemmas.List.{get_or_default}
use Rattle.cc_flow.specs.Lattice.{Equivalent}
use Rattle.cc_flow.specs.Flow.{facts_at, joined, carried}
use Rattle.cc_flow.proofs.Joins.{rose_within, raised_under, carried_within}
use Rattle.cc_flow.proofs.solve.raise.Goals as goal

pub returns-clause-within : goal.returns-clause-within
returns-clause-within g c = λ other solves under.
    let f = g.F.Facts in
    let carries = g.T.Transfer.carries c.args.transfer.now in
    let monotone = g.met.T.Transfer.monotone c.args.transfer.now in
    let facts = c.args.facts.now.items in
    let node = c.args.node in
    let back = c.in_ok-comes_back.comes_back in
    let within : node < length facts = omega arith in
    let old : c.index_mut.result.now ≡ facts_at f.bottom facts node = c.index_mut.ensures.value ∙ get_or_default facts node c.index_mut.result.now f.bottom within in
    let by_row = subst (λ xs. Equivalent f.below back (carries node (joined f.bottom f.lub (facts_at f.bottom c.as_slice.result.now) xs))) c.successors.ensures.row c.in_ok-comes_back.ensures in
    let comes_back = subst (λ xs. Equivalent f.below back (carried f.bottom f.lub carries c.args.graph.now (facts_at f.bottom xs) node)) c.as_slice.ensures.value by_row in
    let behind = carried_within f.below f.bottom f.lub g.met.F.Facts.laws carries monotone c.args.graph.now (facts_at f.bottom facts) other under solves node c.requires.node in
    let own = subst (λ x. f.below x (other node)) (sym old) (under node) in
    raised_under f.below f.bottom f.lub g.met.F.Facts.laws carries monotone c.args.graph.now facts node c.join.new.self other within under
    (rose_within f.below f.bottom f.lub g.met.F.Facts.laws c.index_mut.result.now c.join.new.self back (carried f.bottom f.lub carries c.args.graph.now (facts_at f.bottom facts) node) (other node) c.in_ok-rose.ensures.joined comes_back own behind)
