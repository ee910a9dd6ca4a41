-- A word that is not 0 has a bit set; if all words are 0, no bit is set.
use Rattle.std.proofs.Common.{◌≡◌, ℕ, ap, subst, arith, IsTrue}
use Rattle.cc_bits.specs.Rows.{has, Table}
use Rattle.cc_bits.proofs.Tables.{words_empty, word_held}
use Rattle.cc_bits.proofs.rows.BitRows.is_row_empty.Goals as goal

pub returns-clause-empty : goal.returns-clause-empty
returns-clause-empty c h i =
    let wide : c.self.inside.width ≡ c.args.self.now.width = ap (λ (t : Table). t.width) c.self.view_is in
    words_empty c.args.self.now.width c.args.self.now.words c.args.r (λ k lt. c.loop-k.invariant k (omega (arith, wide, lt))) i

pub returns-then-word-ne0-clause-held : goal.returns-then-word-ne0-clause-held
returns-then-word-ne0-clause-held c h =
    subst (λ (t : Table). (x : ℕ) × IsTrue (has t c.args.r x)) c.self.view_is
    (word_held c.self.inside.width c.self.inside.bits c.args.r c.loop-k.k c.word.result c.loop-k-test.true c.word.ensures c.word.type_inv c.if-word-ne0.true)
