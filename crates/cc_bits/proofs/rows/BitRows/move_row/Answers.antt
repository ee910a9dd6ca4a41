-- The bits of one more word move.
use Rattle.std.proofs.Common.{◌∙◌}
use Rattle.cc_bits.specs.Rows.{has}
use Rattle.cc_bits.proofs.Lines.{one_word_moved}
use Rattle.cc_bits.proofs.rows.BitRows.move_row.Goals as goal

pub loop-k-preserved : goal.loop-k-preserved
loop-k-preserved c = record {
  width = c.in_ok-move_word.ensures.width ∙ c.loop-k.invariant.width;
  moved = one_word_moved c.loop-k.k c.args.from c.args.to (has c.args.self.now) (has c.loop-k.self) (has c.move_word.new.self) c.in_ok-move_word.ensures.moved c.loop-k.invariant.moved;
}
