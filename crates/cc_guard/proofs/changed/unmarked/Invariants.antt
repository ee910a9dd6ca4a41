use Rattle.std.proofs.Common.{◌≡◌, ℕ, false, length, get_or}
use Rattle.cc_guard.proofs.changed.unmarked.Given as goal

-- there are `i` marks, and none is set
abbrev pub invariant-loop-i : goal.invariant-loop-i
invariant-loop-i l = record { long : length l.marks.items ≡ l.i; none : (x : ℕ) → get_or l.marks.items x false ≡ false }
