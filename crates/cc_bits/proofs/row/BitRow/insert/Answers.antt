-- The number's bit is set in its word; the row may have grown by words that are 0.
use Rattle.std.proofs.Common.{◌∙◌, ◌||◌, ◌==◌, ◌/◌, ◌%◌, ◌<◌, ◌≤◌, length, get_or, subst, sym, ap, arith, List, ℕ}
use Rattle.std.specs.Int.{bit_at}
use Rattle.cc_bits.specs.Rows.{holds}
use Rattle.cc_bits.proofs.Bits.{inserted}
use Rattle.cc_bits.proofs.Written.{written, written_long}
use Rattle.cc_bits.proofs.row.BitRow.insert.Goals as goal

pub returns-clause-added : goal.returns-clause-added
returns-clause-added c i =
    let k = c.args.k in
    let row = c.grow.new.words.items in
    let lt : k / 64 < length row = (let l = c.in_ok-grow.ensures.long in omega (arith, l)) in
    let same = c.deref_mut.ensures.value in
    ap (λ (x : List ℕ). holds x i) (written c.grow.new.words c.deref_mut.result.now (k / 64) _ same)
    ∙ (inserted row k (get_or c.deref_mut.result.now (k / 64) 0) i (ap (λ (x : List ℕ). get_or x (k / 64) 0) same) lt
    ∙ (ap (λ w. k == i || bit_at w (i % 64) == 1) (c.in_ok-grow.ensures.same (i / 64)) ∙ ap (λ (x : List ℕ). k == i || holds x i) c.self.view_is))

pub returns-clause-few : goal.returns-clause-few
returns-clause-few c most small low =
    subst (λ n. n ≤ most) (sym (written_long c.grow.new.words c.deref_mut.result.now (c.args.k / 64) _ c.deref_mut.ensures.value))
    (c.grow.ensures.few most (subst (λ (x : List ℕ). length x ≤ most) (sym c.self.view_is) small) (omega (arith, low)))
