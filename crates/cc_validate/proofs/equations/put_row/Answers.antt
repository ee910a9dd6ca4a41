-- The bit of one more column is set.
use Rattle.std.proofs.Common.{◌∙◌, ◌+◌, ◌<◌, ◌≡◌, ◌⊎◌, sym, subst, IsTrue}
use Rattle.cc_bits.specs.Rows.{has, Table}
use Rattle.cc_validate.specs.internal.Origins.{AreSent}
use Rattle.cc_validate.proofs.Sending.{column_sent, column_skipped}
use Rattle.cc_validate.proofs.equations.put_row.Goals as goal
use Rattle.cc_validate.proofs.equations.put_row.Goals.{then-contains+in_ok-insert, else-contains}

pub loop-c-preserved : goal.loop-c-preserved
loop-c-preserved c =
    let old = c.args.bits.now in
    let r = c.args.r in
    let k = c.loop-c.c in
    let Sent = λ (t : Table). AreSent (λ i j. ((i < r) ⊎ ((i ≡ r) × (j < k + 1))) × IsTrue (has old i j)) c.args.origins.now t in
    elim c.if-contains.branch [
      | then-contains+in_ok-insert w ↦ subst Sent (sym w.made-is)
          (column_sent old c.args.origins.now r k c.loop-c.made w.insert.new.self (sym c.contains.ensures ∙ w.if-contains.true) w.in_ok-insert.ensures.added c.loop-c.invariant)
      | else-contains w ↦ subst Sent (sym w.made-is) (column_skipped old c.args.origins.now r k c.loop-c.made (sym c.contains.ensures ∙ w.if-contains.false) c.loop-c.invariant)
    ]
