use Rattle.std.proofs.Common.{◌≡◌, ℕ, length}
use Rattle.cc_flow.specs.Flow.{facts_at}
use Rattle.cc_flow.proofs.solve.least_facts.Given as goal

abbrev pub invariant-loop-made : goal.invariant-loop-made
invariant-loop-made g l = record {
  long : length l.facts.items ≡ l.made;
  flat : (node : ℕ) → facts_at g.F.Facts.bottom l.facts.items node ≡ g.F.Facts.bottom;
}
