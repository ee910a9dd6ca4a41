-- The steps so far are all light.
use Rattle.std.proofs.Common.{◌-◌, ◌≤◌, length}
use Rattle.cc_emit.proofs.Ahead.{Light}
use Rattle.cc_emit.proofs.early.light_count.Given as goal

abbrev pub invariant-loop-count : goal.invariant-loop-count
invariant-loop-count l = record {
  light : Light l.code l.count;
  within : l.count ≤ length l.code;
}

abbrev pub decreases-loop-count : goal.decreases-loop-count
decreases-loop-count l = length l.code - l.count
