-- If the label occurs, it is among the remaining steps.
use Rattle.std.proofs.Common.{◌≡◌, ◌-◌, ◌≤◌, length, drop}
use Rattle.cc_select.specs.Selected.{place}
use Rattle.cc_emit.proofs.early.place_of.Given as goal

abbrev pub invariant-loop-at : goal.invariant-loop-at
invariant-loop-at l = record {
  place : place (drop l.at l.code) l.label ≡ place l.code l.label;
  within : l.at ≤ length l.code;
}

abbrev pub decreases-loop-at : goal.decreases-loop-at
decreases-loop-at l = length l.code - l.at
