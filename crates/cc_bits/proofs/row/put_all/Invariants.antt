-- The words so far have been joined in.
use Rattle.cc_bits.proofs.Bits.{PutFirst}
use Rattle.cc_bits.proofs.row.put_all.Given as goal

abbrev pub invariant-loop-at : goal.invariant-loop-at
invariant-loop-at l = PutFirst l.at l.initial.into.items l.from l.into.items
