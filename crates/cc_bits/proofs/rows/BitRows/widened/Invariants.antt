-- The rows so far have been copied.
use Rattle.std.proofs.Common.{◌≡◌, ℕ, false}
use Rattle.cc_bits.specs.Rows.{has}
use Rattle.cc_bits.proofs.Lines.{PutBefore}
use Rattle.cc_bits.proofs.rows.BitRows.widened.Given as goal

abbrev pub invariant-loop-r : goal.invariant-loop-r
invariant-loop-r l = record {
  width : l.made.width ≡ l.width;
  put : (c : ℕ) → PutBefore l.r (λ r. has l.self r c) (λ _. false) (λ r. has l.made r c);
}
