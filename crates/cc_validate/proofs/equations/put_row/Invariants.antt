-- The bits of the rows so far, and of this row's columns so far, are in the new table.
use Rattle.std.proofs.Common.{◌≡◌, ◌<◌, ◌⊎◌, IsTrue}
use Rattle.cc_bits.specs.Rows.{has}
use Rattle.cc_validate.specs.internal.Origins.{AreSent}
use Rattle.cc_validate.proofs.equations.put_row.Given as goal

abbrev pub invariant-loop-c : goal.invariant-loop-c
invariant-loop-c l = AreSent (λ i j. ((i < l.r) ⊎ ((i ≡ l.r) × (j < l.c))) × IsTrue (has l.bits i j)) l.origins l.made
