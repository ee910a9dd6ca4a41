-- One more word has no bit that the other row lacks; or it has one, and then its number is not in the other row.
use Rattle.std.proofs.Common.{refl, get_or}
use Rattle.cc_bits.proofs.Bits.{one_within, one_outside}
use Rattle.cc_bits.proofs.row.lies_within.Goals as goal

pub returns-then-word-other-ne0-clause-not_within : goal.returns-then-word-other-ne0-clause-not_within
returns-then-word-other-ne0-clause-not_within c _ =
    let o = one_outside c.args.some.now c.args.all.now c.loop-at.at (get_or c.args.some.now c.loop-at.at 0) c.word_at-other.result refl c.word_at-other.ensures
    (c.type_inv.some c.loop-at.at).fits c.word_at-other.type_inv c.loop-at-test.true c.if-word-other-ne0.true in
    (o.0, o.2, o.3)

pub loop-at-preserved : goal.loop-at-preserved
loop-at-preserved c =
    one_within c.args.some.now c.args.all.now c.loop-at.at (get_or c.args.some.now c.loop-at.at 0) c.word_at-other.result refl c.word_at-other.ensures
    c.word_at-other.type_inv c.if-word-other-ne0.false c.loop-at.invariant
