use Rattle.std.proofs.Common.{◌≡◌, ℕ, suc, ◌+◌, ◌*◌, length, sum_by}
use Rattle.cc_flow.specs.Flow.{facts_at, Solves, LiesUnder}
use Rattle.cc_flow.specs.internal.Waiting.{how_many}
use Rattle.cc_flow.proofs.Joins.{IsDone}
use Rattle.cc_flow.proofs.solve.solve_backward.Given as goal

abbrev pub invariant-loop-node : goal.invariant-loop-node
invariant-loop-node g l = record {
  long : length l.facts.items ≡ length l.graph;
  flags : length l.waiting ≡ length l.graph;
  done : IsDone g.F.Facts.below g.F.Facts.bottom g.F.Facts.lub g.met.F.Facts.laws (g.T.Transfer.carries l.transfer) (g.met.T.Transfer.monotone l.transfer) l.graph l.waiting l.facts.items;
  least : (other : ℕ → _) → Solves g.F.Facts.below g.F.Facts.bottom g.F.Facts.lub (g.T.Transfer.carries l.transfer) l.graph other → LiesUnder g.F.Facts.below (facts_at g.F.Facts.bottom l.facts.items) other;
}

abbrev pub decreases-loop-node : goal.decreases-loop-node
decreases-loop-node g l = sum_by g.F.Facts.room l.facts.items * suc (length l.graph) + how_many l.waiting
