-- Quotient and remainder as in C99 6.5.5: if the division has a value, the quotient times the divisor plus the remainder is the
-- dividend, and the remainder is closer to 0 than the divisor and has the dividend's sign. The proof first shows that such a
-- quotient fits in an int, so that its word determines it; the rest follows from laws of whole numbers. The signed value of a
-- right shift is in this file too.
use Rattle.std.proofs.Common.{◌≡◌, ℕ, ◌*◌, ◌/◌, ◌%◌, ◌^◌, ◌<◌, ◌≤◌, Bool, true, false, cond, ltb, ◌≢◌, Some, None, ℤ, pos, negsuc, ◌+ℤ◌, ◌*ℤ◌, ◌≤ℤ◌, unsigned_abs, int_div, int_rem, refl, sym, ap, ◌∙◌, arith, div-le_self, zero, suc, neg_ℤ, mul-le-mul_left, le_trans, div-mul-le_self, lt_of_le_of_lt, div-one, w32, FitsSigned}
use Rattle.std.specs.Int.{int_shr}
use Rattle.std.specs.Int.Signed.{mag, mag_rem, mag_shr, le_z_yes}
use Rattle.std.proofs.lemmas.Int.{ints, quot-rem, rem_below}
use Rattle.std.proofs.lemmas.Option.{cond_some}
use Rattle.std.proofs.lemmas.Bool.Decides.{nat_tests}
use Rattle.std.proofs.Math.Nat.{mod-le}
use Rattle.cc_words.specs.Words.{signed_value, word_of, lacks_quotient, div_s, rem_s, shr_s}
use Rattle.cc_words.specs.internal.Word.{IsWord}
use Rattle.cc_words.proofs.Laws.{FitsSigned-signed_value, signed_value-word_of, signed_value_injective}

mag_of-neg : (n m : ℕ) → n ≤ suc m → mag (neg_ℤ (pos n)) ≤ m
mag_of-neg zero m h = omega arith
mag_of-neg (suc n) m h = omega arith

-- a quotient by 2 or more is at most half the dividend
half_quotient : (a b : ℕ) → suc a / suc (suc b) * 2 ≤ suc a
half_quotient a b =
    let n = suc a / suc (suc b) in
    let below : n * 2 ≤ n * suc (suc b) = mul-le-mul_left n (omega arith) in
    le_trans below (div-mul-le_self (suc a) (suc (suc b)))

-- only the quotient of -2147483648 by -1 does not fit in an int
quotient_fits : (x y : ℤ) → FitsSigned w32 x → y ≢ pos 0 → (x ≡ negsuc 2147483647 → y ≢ negsuc 0) → FitsSigned w32 (int_div x y)
quotient_fits (pos a) (pos b) h _ _ = record { sfits = omega (arith, div-le_self a b, h.sfits) }
quotient_fits (pos a) (negsuc b) h _ _ =
    let small : a / suc b ≤ suc a = omega (arith, div-le_self a (suc b)) in
    record { sfits = lt_of_le_of_lt (mag_of-neg (a / suc b) a small) h.sfits }
quotient_fits (negsuc a) (pos zero) h nonzero _ = absurd (nonzero refl)
quotient_fits (negsuc a) (pos (suc b)) h _ _ =
    record { sfits = lt_of_le_of_lt (mag_of-neg (suc a / suc b) a (div-le_self (suc a) (suc b))) h.sfits }
quotient_fits (negsuc a) (negsuc zero) h _ not_least =
    let other : a ≢ 2147483647 = λ e. not_least (ap negsuc e) refl in
    record { sfits = rw div-one (omega (arith, h.sfits)) }
quotient_fits (negsuc a) (negsuc (suc b)) h _ _ = record { sfits = omega (arith, half_quotient a b, h.sfits) }

remainder_fits : (x y : ℤ) → FitsSigned w32 x → FitsSigned w32 (int_rem x y)
remainder_fits x y h = record { sfits = lt_of_le_of_lt (mag_rem x y) h.sfits }

-- if a signed division has a value, the divisor is not 0, and the operation is not -2147483648 divided by -1
has_quotient : (a b : ℕ) → IsWord a → IsWord b → lacks_quotient a b ≡ false
    → (signed_value b ≢ pos 0) × (signed_value a ≡ negsuc 2147483647 → signed_value b ≢ negsuc 0)
has_quotient a b p q has = (
  λ zero_divisor. let e = signed_value_injective b 0 q (omega arith) zero_divisor in grind (arith, nat_tests),
  λ least minus_one.
      let e = signed_value_injective a 2147483648 p (omega arith) least in
      let f = signed_value_injective b 4294967295 q (omega arith) minus_one in
      grind (arith, nat_tests),
)

abs_pos : (z : ℤ) → z ≢ pos 0 → 0 < unsigned_abs z
abs_pos (pos zero) h = absurd (h refl)
abs_pos (pos (suc n)) h = omega arith
abs_pos (negsuc n) h = omega arith

neg_at_most_zero : (n : ℕ) → neg_ℤ (pos n) ≤ℤ pos 0
neg_at_most_zero zero = le_z_yes tt
neg_at_most_zero (suc n) = le_z_yes tt

int_rem_sign : (x y : ℤ) → (pos 0 ≤ℤ x → pos 0 ≤ℤ int_rem x y) × (x ≤ℤ pos 0 → int_rem x y ≤ℤ pos 0)
int_rem_sign (pos a) y =
    let small = mod-le a (unsigned_abs y) in
    (λ _. omega (arith, ints), λ least. omega (arith, ints))
int_rem_sign (negsuc a) y = (λ h. absurd h.le, λ _. neg_at_most_zero (suc a % unsigned_abs y))

-- if a division has the value `y`, it does not lack a quotient, and `y` is that quotient
answer : (lacks : Bool) (x y : ℕ) → cond lacks None (Some x) ≡ Some y → (lacks ≡ false) × (x ≡ y)
answer true x y e = cc
answer false x y e = (refl, cc)

pub signed_value-div_s : (a b q : ℕ) → IsWord a → IsWord b → div_s a b ≡ Some q → signed_value q ≡ int_div (signed_value a) (signed_value b)
signed_value-div_s a b q h k e =
    let given = answer (lacks_quotient a b) _ q e in
    let has = has_quotient a b h k given.0 in
    let fits = quotient_fits (signed_value a) (signed_value b) (FitsSigned-signed_value a h) has.0 has.1 in
    ap signed_value (sym given.1) ∙ signed_value-word_of _ fits

pub signed_value-rem_s : (a b r : ℕ) → IsWord a → rem_s a b ≡ Some r → signed_value r ≡ int_rem (signed_value a) (signed_value b)
signed_value-rem_s a b r h e =
    let given = answer (lacks_quotient a b) _ r e in
    let fits = remainder_fits (signed_value a) (signed_value b) (FitsSigned-signed_value a h) in
    ap signed_value (sym given.1) ∙ signed_value-word_of _ fits

pub signed_value-shr_s : (w k v : ℕ) → IsWord w → shr_s w k ≡ Some v → signed_value v ≡ int_shr (signed_value w) k
signed_value-shr_s w k v h e =
    let x = signed_value w in
    let fits : FitsSigned w32 (int_shr x k) = record { sfits = lt_of_le_of_lt (mag_shr x (2 ^ k)) (FitsSigned-signed_value w h).sfits } in
    let given = cond_some (ltb k 32) (word_of (int_shr x k)) v e in
    ap signed_value (sym given.1) ∙ signed_value-word_of _ fits

-- the quotient times the divisor, plus the remainder, is the dividend
pub quotient_and_remainder : (a b q r : ℕ) → IsWord a → IsWord b → div_s a b ≡ Some q → rem_s a b ≡ Some r
    → signed_value q *ℤ signed_value b +ℤ signed_value r ≡ signed_value a
quotient_and_remainder a b q r h k e f =
    rw (signed_value-div_s a b q h k e, signed_value-rem_s a b r h f) (quot-rem (signed_value a) (signed_value b))

-- the remainder is closer to 0 than the divisor
pub remainder_below : (a b r : ℕ) → IsWord a → IsWord b → rem_s a b ≡ Some r → unsigned_abs (signed_value r) < unsigned_abs (signed_value b)
remainder_below a b r h k e =
    let given = answer (lacks_quotient a b) _ r e in
    let has = has_quotient a b h k given.0 in
    rw (signed_value-rem_s a b r h e) (rem_below (signed_value a) (signed_value b) (abs_pos (signed_value b) has.0))

-- the remainder has the sign of the dividend, or is 0
pub remainder_sign : (a b r : ℕ) → IsWord a → rem_s a b ≡ Some r
    → (pos 0 ≤ℤ signed_value a → pos 0 ≤ℤ signed_value r) × (signed_value a ≤ℤ pos 0 → signed_value r ≤ℤ pos 0)
remainder_sign a b r h e =
    rw (signed_value-rem_s a b r h e) (int_rem_sign (signed_value a) (signed_value b))
