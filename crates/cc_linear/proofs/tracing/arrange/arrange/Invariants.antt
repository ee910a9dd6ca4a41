use Rattle.std.proofs.Common.{◌≡◌, ℕ, ◌<◌, length, get_or}
use Rattle.std.specs.Prelude.{true, false}
use Rattle.std.specs.List.{Contains}
use Rattle.cc_linear.proofs.Arranging.{Arranging}
use Rattle.cc_linear.proofs.tracing.arrange.arrange.Given as goal

abbrev pub invariant-loop-i : goal.invariant-loop-i
invariant-loop-i l = record {
  long : length l.wanted.items ≡ l.count;
  kept : (x : ℕ) → get_or l.wanted.items x false ≡ true → Contains l.labels x;
  all : (k : ℕ) (d : ℕ) → k < l.i → get_or l.wanted.items (get_or l.labels k d) false ≡ true;
}

abbrev pub invariant-loop-i-2 : goal.invariant-loop-i-2
invariant-loop-i-2 l = record {
  long : length l.wanted.items ≡ l.count;
  arranging : Arranging l.labels l.wanted.items l.order.items;
}

abbrev pub invariant-loop-i-3 : goal.invariant-loop-i-3
invariant-loop-i-3 l = record {
  long : length l.wanted.items ≡ l.count;
  arranging : Arranging l.labels l.wanted.items l.order.items;
  done : (k : ℕ) (d : ℕ) → k < l.i → get_or l.wanted.items (get_or l.labels k d) false ≡ false;
}
