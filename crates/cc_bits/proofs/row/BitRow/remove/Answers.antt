-- The number's bit is cleared in its word, if there is such a word.
use Rattle.std.proofs.Common.{◌∙◌, ◌&&◌, not, ◌==◌, ◌/◌, ◌<◌, length, get_or, ap, arith, List, ℕ}
use Rattle.cc_bits.specs.Rows.{holds}
use Rattle.cc_bits.proofs.Bits.{removed}
use Rattle.cc_bits.proofs.Written.{written}
use Rattle.cc_bits.proofs.row.BitRow.remove.Goals as goal

pub returns-then-at-len-clause-removed : goal.returns-then-at-len-clause-removed
returns-then-at-len-clause-removed c i =
    let k = c.args.k in
    let row = c.self.inside.words.items in
    let lt : k / 64 < length row = omega arith in
    let same = c.deref_mut.ensures.value in
    ap (λ (x : List ℕ). holds x i) (written c.self.inside.words c.deref_mut.result.now (k / 64) _ same)
    ∙ (removed row k (get_or c.deref_mut.result.now (k / 64) 0) i (ap (λ (x : List ℕ). get_or x (k / 64) 0) same) lt
    ∙ ap (λ (x : List ℕ). holds x i && not (k == i)) c.self.view_is)
