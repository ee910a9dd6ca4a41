-- No bit is set in the words so far.
use Rattle.std.proofs.Common.{◌≡◌, ℕ, ◌+◌, ◌*◌, ◌<◌, get_or}
use Rattle.cc_bits.proofs.rows.BitRows.is_row_empty.Given as goal

abbrev pub invariant-loop-k : goal.invariant-loop-k
invariant-loop-k l = (i : ℕ) → i < l.k → get_or l.self.words (l.self.width * l.r + i) 0 ≡ 0
