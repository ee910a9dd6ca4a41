use Rattle.std.proofs.Common.{◌≡◌, ℕ, ◌<◌, length, get_or, All}
use Rattle.std.specs.Prelude.{not}
use Rattle.std.specs.List.{count_by}
use Rattle.cc_linear.specs.internal.Ends.{Sound}
use Rattle.cc_linear.proofs.tracing.ends.chain_ends.Given as goal

abbrev pub invariant-loop-label : goal.invariant-loop-label
invariant-loop-label l = record {
  long : length l.ends.items ≡ l.label;
  own : (k : ℕ) (d : ℕ) → k < l.label → get_or l.ends.items k d ≡ k;
}

abbrev pub invariant-loop-start : goal.invariant-loop-start
invariant-loop-start l = record {
  ends_long : length l.ends.items ≡ length l.next;
  known_long : length l.known.items ≡ length l.next;
  seen_long : length l.seen.items ≡ length l.next;
  path : All (λ x. x < length l.next) l.path.items;
  sound : Sound l.next l.known.items l.ends.items;
}

abbrev pub invariant-loop-seen : goal.invariant-loop-seen
invariant-loop-seen l = record {
  at : l.at < length l.next;
  seen_long : length l.seen.items ≡ length l.next;
  path : All (λ x. x < length l.next) l.path.items;
}

abbrev pub decreases-loop-seen : goal.decreases-loop-seen
decreases-loop-seen l = count_by not l.seen.items

abbrev pub invariant-loop-label-2 : goal.invariant-loop-label-2
invariant-loop-label-2 l = record {
  ends_long : length l.ends.items ≡ length l.next;
  known_long : length l.known.items ≡ length l.next;
  path : All (λ x. x < length l.next) l.path.items;
  sound : Sound l.next l.known.items l.ends.items;
}

abbrev pub decreases-loop-label-2 : goal.decreases-loop-label-2
decreases-loop-label-2 l = goal.left-loop-label-2 l
