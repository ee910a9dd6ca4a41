-- The run is going within any number of steps below the low number, and it has ended within the high number.
use Rattle.std.proofs.Common.{◌≡◌, ◌≤◌, ◌<◌, ◌-◌, ℕ}
use Rattle.cc_ast.specs.Source.{source}
use Rattle.cc_c_semantics.specs.Meaning.{source_behavior}
use Rattle.cc_c_semantics.specs.Outcome as outcome
use Rattle.cc_steps.proofs.count.least.Given as goal

abbrev pub invariant-loop-low : goal.invariant-loop-low
invariant-loop-low l = record {
  in_order : l.low ≤ l.high;
  within : l.high ≤ l.bound;
  before : (n : ℕ) → n < l.low → (source_behavior (source l.unit) l.input n).stop ≡ outcome.Going;
  over : (source_behavior (source l.unit) l.input l.high).stop ≡ outcome.Going → ⊥;
}

abbrev pub decreases-loop-low : goal.decreases-loop-low
decreases-loop-low l = l.high - l.low
