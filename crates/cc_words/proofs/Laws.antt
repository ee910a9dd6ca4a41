-- The laws of words that the crates above use: a word and its signed value determine each other; the value of each operation is
-- a word; what a comparison means; and comparisons and the complement expressed by other operations. Each law except the last
-- is one call of a tactic, by cases on whether a word is below 2^31 and linear arithmetic. The last law compares bit by bit.
use Rattle.std.proofs.Common.{◌≡◌, ℕ, ◌+◌, ◌-◌, ◌%◌, ◌^◌, ◌<◌, ◌≤◌, Bool, true, false, ◌≢◌, ◌⊎◌, ◌↔◌, inl, inr, Some, ℤ, pos, negsuc, ◌<ℤ◌, ◌≤ℤ◌, refl, sym, ap, ◌∙◌, arith, rules, div-le_self, w32, FitsSigned}
use Rattle.std.specs.Int.{cast_signed}
use Rattle.std.proofs.lemmas.Int.{ints}
use Rattle.std.proofs.lemmas.Nat.{or_of_32, xor_of_32, and_le_l, shr_le}
use Rattle.std.proofs.lemmas.Bool.Decides.{nat_tests}
use Rattle.std.proofs.lemmas.Nat.Bits.{same_from_bits_below, bit_at_xor, bit_at_ones, bit_at_not, bit_at-lt}
use Rattle.std.proofs.Math.Nat.{mod-le}
use Rattle.cc_words.specs.Words.{signed_value, word_of, truth_value, add, sub, mul, neg, eq, ne, lt_s, le_s, lt_u, le_u, is_zero, div_s, rem_s, div_u, rem_u, shl, shr_s, shr_u, and, or, xor, complement}
use Rattle.cc_words.specs.internal.Word.{IsWord}

-- ---- words and signed values

pub IsWord-word_of : (z : ℤ) → IsWord (word_of z)
IsWord-word_of (pos n) = omega arith
IsWord-word_of (negsuc n) = omega arith

-- the signed value is the result of a machine's cast
pub signed_value-cast : (w : ℕ) → IsWord w → signed_value w ≡ cast_signed w32 w
signed_value-cast w h = grind (arith, ints)

pub FitsSigned-signed_value : (w : ℕ) → IsWord w → FitsSigned w32 (signed_value w)
FitsSigned-signed_value w h = search (rules, ints)

pub word_of-signed_value : (w : ℕ) → IsWord w → word_of (signed_value w) ≡ w
word_of-signed_value w h = grind (arith, ints)

pub signed_value-word_of : (z : ℤ) → FitsSigned w32 z → signed_value (word_of z) ≡ z
signed_value-word_of z h = grind (arith, ints)

pub signed_value_injective : (a b : ℕ) → IsWord a → IsWord b → signed_value a ≡ signed_value b → a ≡ b
signed_value_injective a b p q e = sym (word_of-signed_value a p) ∙ ap word_of e ∙ word_of-signed_value b q

-- a difference of words can be computed with natural numbers only
pub sub_is : (a b : ℕ) → IsWord a → IsWord b → sub a b ≡ (a + (2 ^ 32 - b)) % 2 ^ 32
sub_is a b p q = grind (arith, ints)

-- ---- the value of each operation is a word

pub IsWord-add : (a b : ℕ) → IsWord (add a b)
IsWord-add a b = omega arith

pub IsWord-sub : (a b : ℕ) → IsWord (sub a b)
IsWord-sub a b = IsWord-word_of _

pub IsWord-mul : (a b : ℕ) → IsWord (mul a b)
IsWord-mul a b = omega arith

pub IsWord-neg : (w : ℕ) → IsWord (neg w)
IsWord-neg w = IsWord-sub 0 w

pub IsWord-truth_value : (b : Bool) → IsWord (truth_value b)
IsWord-truth_value true = omega arith
IsWord-truth_value false = omega arith

pub IsWord-eq : (a b : ℕ) → IsWord (eq a b)
IsWord-eq a b = IsWord-truth_value _

pub IsWord-ne : (a b : ℕ) → IsWord (ne a b)
IsWord-ne a b = IsWord-truth_value _

pub IsWord-lt_s : (a b : ℕ) → IsWord (lt_s a b)
IsWord-lt_s a b = IsWord-truth_value _

pub IsWord-le_s : (a b : ℕ) → IsWord (le_s a b)
IsWord-le_s a b = IsWord-truth_value _

pub IsWord-lt_u : (a b : ℕ) → IsWord (lt_u a b)
IsWord-lt_u a b = IsWord-truth_value _

pub IsWord-le_u : (a b : ℕ) → IsWord (le_u a b)
IsWord-le_u a b = IsWord-truth_value _

pub IsWord-is_zero : (w : ℕ) → IsWord (is_zero w)
IsWord-is_zero w = IsWord-truth_value _

pub IsWord-div_s : (a b v : ℕ) → div_s a b ≡ Some v → IsWord v
IsWord-div_s a b v e = grind (arith, IsWord-word_of)

pub IsWord-rem_s : (a b v : ℕ) → rem_s a b ≡ Some v → IsWord v
IsWord-rem_s a b v e = grind (arith, IsWord-word_of)

pub IsWord-div_u : (a b v : ℕ) → IsWord a → div_u a b ≡ Some v → IsWord v
IsWord-div_u a b v h e = grind (arith, div-le_self)

pub IsWord-rem_u : (a b v : ℕ) → IsWord a → rem_u a b ≡ Some v → IsWord v
IsWord-rem_u a b v h e = grind (arith, mod-le)

pub IsWord-shl : (w k v : ℕ) → shl w k ≡ Some v → IsWord v
IsWord-shl w k v e = grind arith

pub IsWord-shr_s : (w k v : ℕ) → shr_s w k ≡ Some v → IsWord v
IsWord-shr_s w k v e = grind (arith, IsWord-word_of)

pub IsWord-shr_u : (w k v : ℕ) → IsWord w → shr_u w k ≡ Some v → IsWord v
IsWord-shr_u w k v h e = grind (arith, shr_le)

pub IsWord-and : (a b : ℕ) → IsWord a → IsWord (and a b)
IsWord-and a b h = omega (arith, and_le_l a b)

pub IsWord-or : (a b : ℕ) → IsWord a → IsWord b → IsWord (or a b)
IsWord-or a b p q = or_of_32 a b p q

pub IsWord-xor : (a b : ℕ) → IsWord a → IsWord b → IsWord (xor a b)
IsWord-xor a b p q = xor_of_32 a b p q

pub IsWord-complement : (w : ℕ) → IsWord (complement w)
IsWord-complement w = omega arith

-- ---- what a comparison means: it is 1 or 0, and 1 exactly if the relation holds

pub truth_value_cases : (b : Bool) → (truth_value b ≡ 0) ⊎ (truth_value b ≡ 1)
truth_value_cases true = inr refl
truth_value_cases false = inl refl

pub eq_cases : (a b : ℕ) → (eq a b ≡ 0) ⊎ (eq a b ≡ 1)
eq_cases a b = truth_value_cases _

pub ne_cases : (a b : ℕ) → (ne a b ≡ 0) ⊎ (ne a b ≡ 1)
ne_cases a b = truth_value_cases _

pub lt_s_cases : (a b : ℕ) → (lt_s a b ≡ 0) ⊎ (lt_s a b ≡ 1)
lt_s_cases a b = truth_value_cases _

pub le_s_cases : (a b : ℕ) → (le_s a b ≡ 0) ⊎ (le_s a b ≡ 1)
le_s_cases a b = truth_value_cases _

pub lt_u_cases : (a b : ℕ) → (lt_u a b ≡ 0) ⊎ (lt_u a b ≡ 1)
lt_u_cases a b = truth_value_cases _

pub le_u_cases : (a b : ℕ) → (le_u a b ≡ 0) ⊎ (le_u a b ≡ 1)
le_u_cases a b = truth_value_cases _

pub eq-one : (a b : ℕ) → (eq a b ≡ 1) ↔ (a ≡ b)
eq-one a b = (λ e. grind (arith, nat_tests), λ e. grind (arith, nat_tests))

pub ne-one : (a b : ℕ) → (ne a b ≡ 1) ↔ (a ≢ b)
ne-one a b = (λ e. grind (arith, nat_tests), λ e. grind (arith, nat_tests))

pub lt_s-one : (a b : ℕ) → (lt_s a b ≡ 1) ↔ (signed_value a <ℤ signed_value b)
lt_s-one a b = (λ e. grind (arith, ints), λ e. grind (arith, ints))

pub le_s-one : (a b : ℕ) → (le_s a b ≡ 1) ↔ (signed_value a ≤ℤ signed_value b)
le_s-one a b = (λ e. grind (arith, ints), λ e. grind (arith, ints))

pub lt_u-one : (a b : ℕ) → (lt_u a b ≡ 1) ↔ (a < b)
lt_u-one a b = (λ e. grind (arith, nat_tests), λ e. grind (arith, nat_tests))

pub le_u-one : (a b : ℕ) → (le_u a b ≡ 1) ↔ (a ≤ b)
le_u-one a b = (λ e. grind (arith, nat_tests), λ e. grind (arith, nat_tests))

-- a comparison is 0 exactly if its relation does not hold

pub eq-zero : (a b : ℕ) → (eq a b ≡ 0) ↔ (a ≢ b)
eq-zero a b = (λ e. grind (arith, nat_tests), λ e. grind (arith, nat_tests))

pub ne-zero : (a b : ℕ) → (ne a b ≡ 0) ↔ (a ≡ b)
ne-zero a b = (λ e. grind (arith, nat_tests), λ e. grind (arith, nat_tests))

pub lt_s-zero : (a b : ℕ) → (lt_s a b ≡ 0) ↔ (signed_value b ≤ℤ signed_value a)
lt_s-zero a b = (λ e. grind (arith, ints), λ e. grind (arith, ints))

pub le_s-zero : (a b : ℕ) → (le_s a b ≡ 0) ↔ (signed_value b <ℤ signed_value a)
le_s-zero a b = (λ e. grind (arith, ints), λ e. grind (arith, ints))

pub lt_u-zero : (a b : ℕ) → (lt_u a b ≡ 0) ↔ (b ≤ a)
lt_u-zero a b = (λ e. grind (arith, nat_tests), λ e. grind (arith, nat_tests))

pub le_u-zero : (a b : ℕ) → (le_u a b ≡ 0) ↔ (b < a)
le_u-zero a b = (λ e. grind (arith, nat_tests), λ e. grind (arith, nat_tests))

-- ---- comparisons expressed by others that a machine has

pub le_s-lt_s : (a b : ℕ) → le_s a b ≡ 1 - lt_s b a
le_s-lt_s a b = grind (arith, ints)

pub le_u-lt_u : (a b : ℕ) → le_u a b ≡ 1 - lt_u b a
le_u-lt_u a b = grind (arith, nat_tests)

pub is_zero-lt_u : (w : ℕ) → is_zero w ≡ lt_u w 1
is_zero-lt_u w = grind (arith, nat_tests)

pub eq-sub : (a b : ℕ) → IsWord a → IsWord b → eq a b ≡ is_zero (sub a b)
eq-sub a b p q = grind (arith, nat_tests, sub_is)

pub ne-sub : (a b : ℕ) → IsWord a → IsWord b → ne a b ≡ lt_u 0 (sub a b)
ne-sub a b p q = grind (arith, nat_tests, sub_is)

-- ---- the complement as an exclusive or, bit by bit

pub complement-xor : (w : ℕ) → IsWord w → complement w ≡ xor w 4294967295
complement-xor w h =
    same_from_bits_below 32 _ _ (IsWord-complement w) (IsWord-xor w 4294967295 h (omega arith))
    (λ i below.
    let digit = bit_at-lt w i in
    let flipped = bit_at_not w32 w i h below in
    let other = bit_at_xor w 4294967295 i in
    let one = bit_at_ones 32 i below in
    omega arith)
