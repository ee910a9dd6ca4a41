-- A sum, a difference or a product of words is also the sum, difference or product of their signed values, modulo 2^32. So one
-- operation serves both `int` and `unsigned`. A word is its signed value or 2^32 more, so the results for words and for signed
-- values differ by a multiple of 2^32.
use Rattle.std.proofs.Common.{◌≡◌, ℕ, ◌+◌, ◌-◌, ◌*◌, ◌%◌, ◌^◌, ◌⊎◌, inl, inr, ℤ, pos, negsuc, ◌+ℤ◌, ◌-ℤ◌, ◌*ℤ◌, unsigned_abs, refl, sym, ap, ◌∙◌, arith, suc, neg_ℤ, mul-add, mul_comm}
use Rattle.std.proofs.lemmas.Int.{ints, int_rem_euclid_is}
use Rattle.std.proofs.Math.IntN.{*ℤ_comm}
use Rattle.std.proofs.Math.Nat.{add-mul-mod_self_right}
use Rattle.cc_words.specs.Words.{signed_value, word_of, add, sub, mul}
use Rattle.cc_words.specs.internal.Word.{IsWord}
use Rattle.cc_words.proofs.Laws.{sub_is}

-- adding a multiple of 2^32 leaves the word the same
word_of_more : (z : ℤ) (k m : ℕ) → z +ℤ pos (k * 2 ^ 32) ≡ pos m → word_of z ≡ m % 2 ^ 32
word_of_more z k m e = ap unsigned_abs (int_rem_euclid_is z (pos (2 ^ 32)) (2 ^ 32) k m (omega arith) refl e)

-- a word is its signed value, or its signed value plus 2^32
word_cases : (w : ℕ) → IsWord w → (signed_value w ≡ pos w) ⊎ (signed_value w +ℤ pos (2 ^ 32) ≡ pos w)
word_cases w h = grind (arith, ints)

pub add-signed_value : (a b : ℕ) → IsWord a → IsWord b → add a b ≡ word_of (signed_value a +ℤ signed_value b)
add-signed_value a b p q =
    let x = signed_value a in
    let y = signed_value b in
    let more = λ (k : ℕ) (e : (x +ℤ y) +ℤ pos (k * 2 ^ 32) ≡ pos (a + b)). sym (word_of_more (x +ℤ y) k (a + b) e) in
    elim (word_cases a p) [
      | inl c ↦ elim (word_cases b q) [ inl d ↦ more 0 (omega (arith, ints)) | inr d ↦ more 1 (omega (arith, ints)) ]
      | inr c ↦ elim (word_cases b q) [ inl d ↦ more 1 (omega (arith, ints)) | inr d ↦ more 2 (omega (arith, ints)) ]
    ]

pub sub-signed_value : (a b : ℕ) → IsWord a → IsWord b → sub a b ≡ word_of (signed_value a -ℤ signed_value b)
sub-signed_value a b p q =
    let x = signed_value a in
    let y = signed_value b in
    let more = λ (k : ℕ) (e : (x -ℤ y) +ℤ pos (k * 2 ^ 32) ≡ pos (a + (2 ^ 32 - b))).
    sub_is a b p q ∙ sym (word_of_more (x -ℤ y) k (a + (2 ^ 32 - b)) e) in
    elim (word_cases a p) [
      | inl c ↦ elim (word_cases b q) [ inl d ↦ more 1 (omega (arith, ints)) | inr d ↦ more 0 (omega (arith, ints)) ]
      | inr c ↦ elim (word_cases b q) [ inl d ↦ more 2 (omega (arith, ints)) | inr d ↦ more 1 (omega (arith, ints)) ]
    ]

below_zero : (z : ℤ) (w : ℕ) → z +ℤ pos (2 ^ 32) ≡ pos w → IsWord w → (m : ℕ) × (z ≡ negsuc m) × (w + suc m ≡ 2 ^ 32)
below_zero (pos n) w e h = absurd (omega (arith, ints))
below_zero (negsuc m) w e h = (m, refl, omega (arith, ints))

-- a word's signed value is the word itself, or a negative number that is 2^32 less
signed_value_form : (w : ℕ) → IsWord w → (signed_value w ≡ pos w) ⊎ ((m : ℕ) × (signed_value w ≡ negsuc m) × (w + suc m ≡ 2 ^ 32))
signed_value_form w h =
    elim (word_cases w h) [ inl e ↦ inl e | inr e ↦ inr (below_zero (signed_value w) w e h) ]

-- if one factor or both are below 0, the product differs from that of the words by a multiple of n
product_of_one : (n a b x : ℕ) → b + x ≡ n → neg_ℤ (pos (a * x)) +ℤ pos (a * n) ≡ pos (a * b)
product_of_one n a b x e = let f : a * n ≡ a * b + a * x = ap (λ t. a * t) (sym e) ∙ mul-add a b x in omega (arith, ints)

product_of_both : (n a b x y : ℕ) → a + x ≡ n → b + y ≡ n → x * y + a * n ≡ a * b + y * n
product_of_both n a b x y d e =
    let f : a * n ≡ a * b + a * y = ap (λ t. a * t) (sym e) ∙ mul-add a b y in
    let g : y * n ≡ y * a + y * x = ap (λ t. y * t) (sym d) ∙ mul-add y a x in
    omega (arith, mul_comm y a, mul_comm y x)

mixed_product : (a b m : ℕ) → b + suc m ≡ 2 ^ 32 → mul a b ≡ word_of (pos a *ℤ negsuc m)
mixed_product a b m e = sym (word_of_more (pos a *ℤ negsuc m) a (a * b) (product_of_one (2 ^ 32) a b (suc m) e))

negative_product : (a b m k : ℕ) → a + suc m ≡ 2 ^ 32 → b + suc k ≡ 2 ^ 32 → mul a b ≡ word_of (negsuc m *ℤ negsuc k)
negative_product a b m k d e =
    sym (add-mul-mod_self_right (a * b) (suc k) (2 ^ 32))
    ∙ ap (λ t. t % 2 ^ 32) (sym (product_of_both (2 ^ 32) a b (suc m) (suc k) d e))
    ∙ add-mul-mod_self_right (suc m * suc k) a (2 ^ 32)

pub mul-signed_value : (a b : ℕ) → IsWord a → IsWord b → mul a b ≡ word_of (signed_value a *ℤ signed_value b)
mul-signed_value a b p q =
    elim (signed_value_form a p) [
      | inl c ↦ elim (signed_value_form b q) [ inl d ↦ rw (c, d) refl | inr d ↦ rw (c, d.1) (mixed_product a b d.0 d.2) ]
      | inr c ↦ elim (signed_value_form b q) [
        | inl d ↦ rw (c.1, d) (rw (mul_comm a b, *ℤ_comm (negsuc c.0) (pos b)) (mixed_product b a c.0 c.2))
        | inr d ↦ rw (c.1, d.1) (negative_product a b c.0 d.0 c.2 d.2)
      ]
    ]
