use Rattle.std.proofs.Common.{◌≡◌, ◌≤◌, ◌-◌, length}
use Rattle.std.specs.List.{Contains}
use Rattle.cc_linear.specs.internal.Reached.{ClosedTo, Found}
use Rattle.cc_linear.proofs.tracing.reached.reached.Given as goal

abbrev pub invariant-loop-at : goal.invariant-loop-at
invariant-loop-at l = record {
  long : length l.seen.items ≡ length l.graph;
  found : Found l.seen.items l.found.items;
  entry : Contains l.found.items l.entry;
  closed : ClosedTo l.graph l.found.items l.at;
  within : l.at ≤ length l.found.items;
}

abbrev pub decreases-loop-at : goal.decreases-loop-at
decreases-loop-at l = length l.graph - l.at
