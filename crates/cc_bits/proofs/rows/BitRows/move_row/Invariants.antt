-- The bits of the words so far have moved.
use Rattle.std.proofs.Common.{◌≡◌}
use Rattle.cc_bits.specs.Rows.{has}
use Rattle.cc_bits.proofs.Lines.{WordsMoved}
use Rattle.cc_bits.proofs.rows.BitRows.move_row.Given as goal

abbrev pub invariant-loop-k : goal.invariant-loop-k
invariant-loop-k l = record {
  width : l.self.width ≡ l.initial.self.width;
  moved : WordsMoved l.k l.from l.to (has l.initial.self) (has l.self);
}
