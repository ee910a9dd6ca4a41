-- The bits of `word` are set in the row's word; the row may have grown by words that are 0.
use Rattle.std.proofs.Common.{◌∙◌, ◌&&◌, ◌||◌, ◌==◌, ◌/◌, ◌%◌, ◌<◌, ◌≤◌, length, get_or, subst, sym, ap, arith, List, ℕ}
use Rattle.std.specs.Int.{bit_at}
use Rattle.cc_bits.specs.Rows.{holds}
use Rattle.cc_bits.proofs.Bits.{word_put}
use Rattle.cc_bits.proofs.Written.{written, written_long}
use Rattle.cc_bits.proofs.row.BitRow.put_word.Goals as goal

pub returns-clause-put : goal.returns-clause-put
returns-clause-put c i =
    let at = c.args.at in
    let row = c.grow.new.words.items in
    let lt : at < length row = (let l = c.in_ok-grow.ensures.long in omega (arith, l)) in
    let same = c.deref_mut.ensures.value in
    ap (λ (x : List ℕ). holds x i) (written c.grow.new.words c.deref_mut.result.now at _ same)
    ∙ (word_put row at (get_or c.deref_mut.result.now at 0) c.args.word i (ap (λ (x : List ℕ). get_or x at 0) same) lt
    ∙ (ap (λ v. bit_at v (i % 64) == 1 || (at == i / 64 && bit_at c.args.word (i % 64) == 1)) (c.in_ok-grow.ensures.same (i / 64))
    ∙ ap (λ (x : List ℕ). holds x i || (at == i / 64 && bit_at c.args.word (i % 64) == 1)) c.self.view_is))

pub returns-clause-few : goal.returns-clause-few
returns-clause-few c most small low =
    subst (λ n. n ≤ most) (sym (written_long c.grow.new.words c.deref_mut.result.now c.args.at _ c.deref_mut.ensures.value))
    (c.grow.ensures.few most (subst (λ (x : List ℕ). length x ≤ most) (sym c.self.view_is) small) (omega (arith, low)))
