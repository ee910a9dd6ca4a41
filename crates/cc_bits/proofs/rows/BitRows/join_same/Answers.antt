-- Words of equal width are joined. If a number was missing, so was the bit with that number.
use Rattle.std.proofs.Common.{◌≡◌, ◌∙◌, ◌&&◌, ◌||◌, ◌*◌, ◌≤◌, ap, sym, subst, arith, ℕ, List, length, nat_lt, IsTrue, IsFalse}
use Rattle.std.proofs.Math.Nat.{mul-le-mul_left}
use Rattle.cc_bits.specs.Rows.{has, holds, key, Table, most_rows}
use Rattle.cc_bits.proofs.Tables.{joined_bits, risen_bit}
use Rattle.cc_bits.proofs.rows.BitRows.join_same.Goals as goal

same_width : (a b : Table) (x y : ℕ) (xs ys : List ℕ) → record { width = x; words = xs } ≡ a → record { width = y; words = ys } ≡ b → a.width ≡ b.width → x ≡ y
same_width a b x y xs ys p q e = ap (λ (t : Table). t.width) p ∙ (e ∙ sym (ap (λ (t : Table). t.width) q))

pub invariant_of-self : goal.invariant_of-self
invariant_of-self c = record {
  narrow = c.self.invariant.narrow;
  low = c.self.invariant.low;
  few = subst (λ (x : List ℕ). length x ≤ c.self.inside.width * c.self.inside.rows) (sym c.in_err-rose.ensures.leaves) c.self.invariant.few;
}

pub invariant_of-self-2 : goal.invariant_of-self-2
invariant_of-self-2 c =
    let widths : c.self.inside.width ≡ c.other.inside.width = same_width c.args.self.now c.args.other.now c.self.inside.width c.other.inside.width c.self.inside.bits c.other.inside.bits c.self.view_is c.other.view_is c.requires in
    let w = c.self.inside.width in
    let rows = c.greater-self-inside.result in
    let mine = mul-le-mul_left {m = c.self.inside.rows} {n = rows} w c.greater-self-inside.ensures.one in
    let theirs = mul-le-mul_left {m = c.other.inside.rows} {n = rows} w c.greater-self-inside.ensures.other in
    let few = c.self.invariant.few in
    let few_too : length c.other.inside.bits ≤ w * c.other.inside.rows = subst (λ x. length c.other.inside.bits ≤ x * c.other.inside.rows) (sym widths) c.other.invariant.few in
    record {
      narrow = c.self.invariant.narrow;
      low = c.greater-self-inside.ensures.least most_rows c.self.invariant.low c.other.invariant.low;
      few = c.join.ensures.few (w * rows) (omega (arith, few, mine)) (omega (arith, few_too, theirs));
    }

pub returns-clause-both : goal.returns-clause-both
returns-clause-both c r i =
    let widths : c.self.inside.width ≡ c.other.inside.width = same_width c.args.self.now c.args.other.now c.self.inside.width c.other.inside.width c.self.inside.bits c.other.inside.bits c.self.view_is c.other.view_is c.requires in
    joined_bits c.self.inside.width c.join.new.self c.self.inside.bits c.other.inside.bits c.in_ok-rose.ensures.both r i
    ∙ (ap (λ w. (nat_lt i (64 * c.self.inside.width) && holds c.self.inside.bits (key c.self.inside.width r i)) || (nat_lt i (64 * w) && holds c.other.inside.bits (key w r i))) widths
    ∙ (ap (λ (t : Table). has t r i || (nat_lt i (64 * c.other.inside.width) && holds c.other.inside.bits (key c.other.inside.width r i))) c.self.view_is
    ∙ ap (λ (t : Table). has c.args.self.now r i || has t r i) c.other.view_is))

pub returns-clause-rises : goal.returns-clause-rises
returns-clause-rises c rose =
    let widths : c.self.inside.width ≡ c.other.inside.width = same_width c.args.self.now c.args.other.now c.self.inside.width c.other.inside.width c.self.inside.bits c.other.inside.bits c.self.view_is c.other.view_is c.requires in
    let w = c.self.inside.width in
    let k = c.in_ok-rose.ensures.rises rose in
    let few : length c.other.inside.bits ≤ w * c.other.inside.rows = subst (λ x. length c.other.inside.bits ≤ x * c.other.inside.rows) (sym widths) c.other.invariant.few in
    let b = risen_bit w c.other.inside.rows c.self.inside.bits c.other.inside.bits few k.0 k.1 k.2 in (
      b.0,
      b.1,
      subst (λ (t : Table). IsTrue (has t b.0 b.1)) c.other.view_is (subst (λ x. IsTrue (nat_lt b.1 (64 * x) && holds c.other.inside.bits (key x b.0 b.1))) widths b.2),
      subst (λ (t : Table). IsFalse (has t b.0 b.1)) c.self.view_is b.3,
    )
