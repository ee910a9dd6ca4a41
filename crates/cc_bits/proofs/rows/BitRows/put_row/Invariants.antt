-- The bits of the columns so far are set in row `r`, and no other row has changed.
use Rattle.std.proofs.Common.{◌≡◌, ℕ, ◌&&◌, ◌==◌}
use Rattle.cc_bits.specs.Rows.{has}
use Rattle.cc_bits.proofs.Lines.{PutBefore}
use Rattle.cc_bits.proofs.rows.BitRows.put_row.Given as goal

abbrev pub invariant-loop-c : goal.invariant-loop-c
invariant-loop-c l = record {
  width : l.into.width ≡ l.initial.into.width;
  put : (i : ℕ) → PutBefore l.c (λ j. l.r == i && has l.self l.r j) (has l.initial.into i) (has l.into i);
}
