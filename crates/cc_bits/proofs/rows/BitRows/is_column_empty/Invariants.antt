-- No bit of the column is set in the rows so far.
use Rattle.std.proofs.Common.{◌≡◌, ℕ, ◌<◌, false}
use Rattle.cc_bits.specs.Rows.{has}
use Rattle.cc_bits.proofs.rows.BitRows.is_column_empty.Given as goal

abbrev pub invariant-loop-r : goal.invariant-loop-r
invariant-loop-r l = (k : ℕ) → k < l.r → has l.self k l.c ≡ false
