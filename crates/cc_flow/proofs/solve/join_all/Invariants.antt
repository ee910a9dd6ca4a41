use Rattle.std.proofs.Common.{drop, ◌≤◌, length}
use Rattle.cc_flow.specs.Lattice.{Equivalent}
use Rattle.cc_flow.specs.Flow.{joined, facts_at}
use Rattle.cc_flow.proofs.solve.join_all.Given as goal

abbrev pub invariant-loop-n : goal.invariant-loop-n
invariant-loop-n g l = record {
  within : l.n ≤ length l.nodes;
  so_far : Equivalent g.F.Facts.below l.behind (joined g.F.Facts.bottom g.F.Facts.lub (facts_at g.F.Facts.bottom l.facts) (drop l.n l.nodes));
}

abbrev pub decreases-loop-n : goal.decreases-loop-n
decreases-loop-n g l = l.n
