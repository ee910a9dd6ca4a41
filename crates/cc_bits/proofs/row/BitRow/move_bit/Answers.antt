-- If the number is in the set, its bit is cleared and that of the other number is set.
use Rattle.std.proofs.Common.{◌≡◌, ◌∙◌, ◌+◌, ◌*◌, ◌/◌, ◌%◌, ◌^◌, ◌<◌, ◌≤◌, ◌==◌, length, slice_set, get_or, ap, sym, subst, arith, List, ℕ, true, w64}
use Rattle.std.specs.Int.{bit_at, bit_not}
use Rattle.std.specs.Int.Bits.{bit_and}
use Rattle.std.specs.List.{refill}
use Rattle.cc_bits.specs.Rows.{holds, moved}
use Rattle.cc_bits.proofs.Bits.{removed_at, moved_on}
use Rattle.cc_bits.proofs.Written.{written, written_long}
use Rattle.cc_bits.proofs.row.BitRow.move_bit.Goals as goal

-- the word with this bit cleared
abbrev cleared : (bit word : ℕ) → ℕ
cleared bit word = bit_and word (bit_not w64 (1 * 2 ^ bit % 2 ^ 64))

pub returns-in_ok-insert-clause-moved : goal.returns-in_ok-insert-clause-moved
returns-in_ok-insert-clause-moved c =
    let at = c.args.at in
    let b = c.args.bit in
    let row = c.self.inside.words.items in
    let word = get_or c.deref.result.now at 0 in
    let lt : at < length row = subst (λ (x : List ℕ). at < length x) (sym c.self.view_is) c.requires.at in
    let read : word ≡ get_or row at 0 = ap (λ (x : List ℕ). get_or x at 0) c.deref.ensures in
    let place : (64 * at + b) / 64 ≡ at = omega (arith, c.requires.bit) in
    let of : (64 * at + b) % 64 ≡ b % 64 = omega (arith, c.requires.bit) in
    let there : (bit_at word ((64 * at + b) % 64) == 1) ≡ true = ap (λ n. bit_at word n == 1) of ∙ (sym c.is_set.ensures ∙ c.if-is_set.true) in
    let all = moved_on (64 * at + b) c.args.to (holds row) (holds (refill (length row) row (slice_set c.deref_mut.result.now at (cleared b word)))) (holds c.insert.new.self)
    (ap (λ i. bit_at i ((64 * at + b) % 64) == 1) (ap (λ i. get_or row i 0) place ∙ sym read) ∙ there)
    (λ i. ap (λ (x : List ℕ). holds x i) (written c.self.inside.words c.deref_mut.result.now at (cleared b word) c.deref_mut.ensures.value) ∙ removed_at row at b word i c.requires.bit read lt) c.in_ok-insert.ensures.added in
    subst (λ (x : List ℕ). (k : ℕ) → holds c.insert.new.self k ≡ moved (64 * at + b) c.args.to (holds x) k) c.self.view_is all

pub returns-in_ok-insert-clause-few : goal.returns-in_ok-insert-clause-few
returns-in_ok-insert-clause-few c most small low =
    let same = written_long c.self.inside.words c.deref_mut.result.now c.args.at (cleared c.args.bit (get_or c.deref.result.now c.args.at 0)) c.deref_mut.ensures.value in
    c.insert.ensures.few most (subst (λ n. n ≤ most) (sym same) (subst (λ (x : List ℕ). length x ≤ most) (sym c.self.view_is) small)) low
