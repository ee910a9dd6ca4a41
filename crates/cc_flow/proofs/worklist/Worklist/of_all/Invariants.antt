use Rattle.std.proofs.Common.{◌≡◌, ℕ, ◌<◌, ◌≤◌, length, true}
use Rattle.cc_flow.specs.internal.Waiting.{waits}
use Rattle.cc_flow.proofs.worklist.Worklist.of_all.Given as goal

abbrev pub invariant-loop-node : goal.invariant-loop-node
invariant-loop-node l = record {
  long : length l.waiting ≡ l.nodes;
  behind : (k : ℕ) → l.node ≤ k → k < l.nodes → waits l.waiting k ≡ true;
}
