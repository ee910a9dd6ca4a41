use Rattle.std.proofs.Common.{◌≡◌, ℕ, ◌<◌, length, true, get_or}
use Rattle.cc_flow.specs.internal.Waiting.{waits}
use Rattle.cc_flow.proofs.solve.wake.Given as goal

abbrev pub invariant-loop-node : goal.invariant-loop-node
invariant-loop-node l = record {
  long : length l.waiting ≡ length l.initial.waiting;
  still : (node : ℕ) → waits l.initial.waiting node ≡ true → waits l.waiting node ≡ true;
  woken : (k d : ℕ) → k < l.node-index → waits l.waiting (get_or l.nodes k d) ≡ true;
}
