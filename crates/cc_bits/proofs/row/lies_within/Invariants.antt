-- The words so far hold nothing that the other row does not hold.
use Rattle.cc_bits.proofs.Bits.{WithinFirst}
use Rattle.cc_bits.proofs.row.lies_within.Given as goal

abbrev pub invariant-loop-at : goal.invariant-loop-at
invariant-loop-at l = WithinFirst l.at l.some l.all
