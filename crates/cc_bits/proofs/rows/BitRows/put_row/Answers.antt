-- The bit of one more column is added.
use Rattle.std.proofs.Common.{◌∙◌, ◌+◌, ◌&&◌, ◌==◌, ap, sym, subst, ℕ}
use Rattle.cc_bits.specs.Rows.{has, Table}
use Rattle.cc_bits.proofs.Lines.{PutBefore, row_put, row_skipped}
use Rattle.cc_bits.proofs.rows.BitRows.put_row.Goals as goal
use Rattle.cc_bits.proofs.rows.BitRows.put_row.Goals.{then-contains+in_ok-put, else-contains}

pub loop-c-preserved : goal.loop-c-preserved
loop-c-preserved c =
    let own = has c.args.self.now c.args.r in
    let old = has c.args.into.now in
    elim c.if-contains.branch [
      | then-contains+in_ok-put w ↦ record {
        width = ap (λ (t : Table). t.width) w.into-is ∙ (w.put.ensures.width ∙ c.loop-c.invariant.width);
        put = subst (λ (t : Table). (i : ℕ) → PutBefore (c.loop-c.c + 1) (λ j. c.args.r == i && own j) (old i) (has t i)) (sym w.into-is)
            (row_put c.args.r c.loop-c.c own old (has c.loop-c.into) (has w.put.new.self) (sym c.contains.ensures ∙ w.if-contains.true) w.in_ok-put.ensures.added c.loop-c.invariant.put);
      }
      | else-contains w ↦ record {
        width = ap (λ (t : Table). t.width) w.into-is ∙ c.loop-c.invariant.width;
        put = subst (λ (t : Table). (i : ℕ) → PutBefore (c.loop-c.c + 1) (λ j. c.args.r == i && own j) (old i) (has t i)) (sym w.into-is)
            (row_skipped c.args.r c.loop-c.c own old (has c.loop-c.into) (sym c.contains.ensures ∙ w.if-contains.false) c.loop-c.invariant.put);
      }
    ]
