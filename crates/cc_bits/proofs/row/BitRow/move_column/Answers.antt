-- The bit of one more row moves; a row past the last word has no such bit.
use Rattle.std.proofs.Common.{◌+◌, ◌≤◌, ◌<◌, List, ℕ, length, subst, arith}
use Rattle.cc_bits.proofs.Lines.{still_few, row_moved_on, all_rows_moved}
use Rattle.cc_bits.proofs.row.BitRow.move_column.Goals as goal

pub loop-at-preserved : goal.loop-at-preserved
loop-at-preserved c =
    let m = c.loop-at.invariant in
    let lt = subst (λ (x : List ℕ). c.loop-at.at < length x) c.self.view_is (omega arith) in (
      m.0 + 1,
      row_moved_on m.0 c.args.width c.args.from c.args.to c.loop-at.at c.loop-at.target c.args.self.now c.loop-at.self c.move_bit.new.self m.1 c.requires.from c.requires.to lt
          c.move_bit.ensures.few c.in_ok-move_bit.ensures.moved,
    )

pub returns-in_err-move_bit-clause-few : goal.returns-in_err-move_bit-clause-few
returns-in_err-move_bit-clause-few c =
    let m = c.loop-at.invariant in
    let lt = subst (λ (x : List ℕ). c.loop-at.at < length x) c.self.view_is (omega arith) in
    still_few m.0 c.args.width c.args.from c.args.to c.loop-at.at c.loop-at.target c.args.self.now c.loop-at.self c.move_bit.new.self m.1 c.requires.from c.requires.to lt c.move_bit.ensures.few

pub returns : goal.returns
returns c =
    let m = c.loop-at.invariant in
    let end = subst (λ (x : List ℕ). length x ≤ c.loop-at.at) c.self.view_is (omega arith) in record {
      moved = all_rows_moved m.0 c.args.width c.args.from c.args.to c.loop-at.at c.loop-at.target c.args.self.now c.loop-at.self c.loop-at.self m.1 c.requires.from c.requires.to end;
      few = m.1.few;
    }
