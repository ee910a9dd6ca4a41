-- What an operator gives is in the range that is computed. Each case turns the operator's value into a signed number, by the laws of
-- words, and compares it with the limits. A range of natural numbers is first written with natural limits.
use Rattle.std.proofs.Common.{◌≡◌, ℕ, zero, suc, ◌+◌, ◌-◌, ◌*◌, ◌/◌, ◌%◌, ◌^◌, ◌<◌, ◌≤◌, Bool, true, false, ◌==◌, Some, None, ℤ, pos, negsuc, ◌+ℤ◌, ◌-ℤ◌, ◌*ℤ◌, ◌<ℤ◌, ◌≤ℤ◌, unsigned_abs, int_div, int_rem, neg_ℤ, refl, sym, ap, ◌∙◌, subst, arith, div-le_self, div-mul-le_self, mul-le-mul_left, le_trans, w32, FitsSigned}
use Rattle.std.specs.Prelude.{if◌then◌else◌, ◌&&◌, nat_lt, int_lt, int_le}
use Rattle.std.specs.Int.{int_shr}
use Rattle.std.specs.Ordering.{int_eq}
use Rattle.std.specs.Int.Signed.{shr_z}
use Rattle.std.proofs.lemmas.Int.{ints}
use Rattle.std.proofs.lemmas.Nat.{and_le_l, and_le_r, or_lt, xor_lt, mul-le, le-div, shr_below, pow_pos}
use Rattle.std.proofs.lemmas.Bool.Decides.{nat_tests}
use Rattle.std.proofs.Math.Nat.{mod-le, mod-lt, pow-le-pow_right}
use Rattle.cc_words.specs.declared.operators.Unary.TheVariants.{Neg, Complement, IsZero}
use Rattle.cc_words.specs.declared.operators.Binary.TheVariants.{Add, Sub, Mul, DivS, DivU, RemS, RemU, Shl, ShrS, ShrU, And, Or, Xor, Eq, Ne, LtS, LtU, LeS, LeU}
use Rattle.cc_words.specs.Words.{signed_value, truth_value, add, sub, mul, and, or, xor, div_s, rem_s, div_u, rem_u, shr_s, shr_u}
use Rattle.cc_words.specs.internal.Word.{IsWord}
use Rattle.cc_words.proofs.Laws.{IsWord-add, IsWord-sub, IsWord-mul, signed_value-word_of, IsWord-div_s, IsWord-rem_s, IsWord-shr_s, IsWord-shl, IsWord-complement}
use Rattle.cc_words.proofs.Sums.{add-signed_value, sub-signed_value}
use Rattle.cc_words.proofs.Quotients.{signed_value-div_s, signed_value-rem_s, signed_value-shr_s, remainder_below}
use Rattle.cc_range.specs.declared.range.Range.{Range}
use Rattle.cc_range.specs.Range.{Has, least, greatest, minimum, maximum, is_natural, is_positive, is_int, between, fitting, all_words, truth_words, only, sum, difference, product, greatest_quotient, quotient_s, quotient_u, toward_zero, nearer, remainder_s, remainder_u, count, shifted_s, high_bits, shifted_u, conjunction, below_power, combination}
use Rattle.cc_range.specs.Laws.{UnaryIsSound, BinaryIsSound}

pub some_is : (v w : ℕ) → Some v ≡ Some w → v ≡ w
some_is v w e = cc

pub both : (a b : Bool) → (a && b) ≡ true → (a ≡ true) × (b ≡ true)
both true true e = (refl, refl)
both true false e = absurd (let f : false ≡ true = e in cc)
both false b e = absurd (let f : false ≡ true = e in cc)

-- the value of a choice is one of two
pub when_if : {A : Type 0} (P : A → Type 0) (b : Bool) (x y : A) → (b ≡ true → P x) → (b ≡ false → P y) → P (if b then x else y)
when_if P true x y f g = f refl
when_if P false x y f g = g refl

pub in_all : (w : ℕ) → w < 2 ^ 32 → Has all_words w
in_all w h = record { low = grind (arith, ints); high = grind (arith, ints); nonzero = λ e. absurd (let f : false ≡ true = e in cc) }

pub zero_value : (w : ℕ) → w ≡ 0 → signed_value w ≡ pos 0
zero_value w e = ap signed_value e

pub in_between : (low high : ℤ) (w : ℕ) → low ≤ℤ signed_value w → signed_value w ≤ℤ high → Has (between low high) w
in_between low high w p q = record { low = p; high = q; nonzero = λ e z. let f = zero_value w z in grind (arith, ints) }

in_fitting : (low high : ℤ) (w : ℕ) → w < 2 ^ 32 → (least ≤ℤ low → high ≤ℤ greatest → (low ≤ℤ signed_value w) × (signed_value w ≤ℤ high)) → Has (fitting low high) w
in_fitting low high w h f = when_if (λ r. Has r w) (is_int low && is_int high) (between low high) all_words (λ e. let p = both (is_int low) (is_int high) e in let q = f (grind (arith, ints)) (grind (arith, ints)) in in_between low high w q.0 q.1) (λ e. in_all w h)

fits_of : (z : ℤ) → least ≤ℤ z → z ≤ℤ greatest → FitsSigned w32 z
fits_of (pos n) p q = record { sfits = omega (arith, ints) }
fits_of (negsuc n) p q = record { sfits = omega (arith, ints) }

-- ---- sums and differences

pub sum_sound : (a b : Range) (x y : ℕ) → IsWord x → IsWord y → Has a x → Has b y → Has (sum a b) (add x y)
sum_sound a b x y h k p q =
    in_fitting (a.low +ℤ b.low) (a.high +ℤ b.high) (add x y) (IsWord-add x y) (λ u v.
    let e = ap signed_value (add-signed_value x y h k) ∙ signed_value-word_of (signed_value x +ℤ signed_value y) (fits_of _ (omega (arith, ints, p.low, q.low)) (omega (arith, ints, p.high, q.high))) in
    (omega (arith, ints, p.low, q.low), omega (arith, ints, p.high, q.high)))

pub difference_sound : (a b : Range) (x y : ℕ) → IsWord x → IsWord y → Has a x → Has b y → Has (difference a b) (sub x y)
difference_sound a b x y h k p q =
    in_fitting (a.low -ℤ b.high) (a.high -ℤ b.low) (sub x y) (IsWord-sub x y) (λ u v.
    let e = ap signed_value (sub-signed_value x y h k) ∙ signed_value-word_of (signed_value x -ℤ signed_value y) (fits_of _ (omega (arith, ints, p.low, q.high)) (omega (arith, ints, p.high, q.low))) in
    (omega (arith, ints, p.low, q.high), omega (arith, ints, p.high, q.low)))

-- ---- natural numbers

-- a word of a range of natural numbers, with the limits as natural numbers
pub record Small (r : Range) (w : ℕ) : Type 0 where
  pub value : signed_value w ≡ pos w
  pub below : w < 2 ^ 31
  pub least : ℕ
  pub least_is : r.low ≡ pos least
  pub above : least ≤ w
  pub most : ℕ
  pub most_is : r.high ≡ pos most
  pub within : w ≤ most

natural_is : (z : ℤ) → pos 0 ≤ℤ z → (n : ℕ) × (z ≡ pos n)
natural_is (pos n) h = (n, refl)
natural_is (negsuc n) h = absurd (omega (arith, ints))

pub small_value : (w : ℕ) → w < 2 ^ 31 → signed_value w ≡ pos w
small_value w h = grind (arith, ints)

pub small_word : (w : ℕ) → w < 2 ^ 32 → pos 0 ≤ℤ signed_value w → w < 2 ^ 31
small_word w h p = grind (arith, ints)

pub small : (r : Range) (w : ℕ) → w < 2 ^ 32 → is_natural r.low ≡ true → Has r w → Small r w
small r w h e p =
    let n : pos 0 ≤ℤ r.low = grind (arith, ints) in
    let lt = small_word w h (omega (arith, ints, p.low)) in
    let v = small_value w lt in
    let low = natural_is r.low n in
    let high = natural_is r.high (omega (arith, ints, p.low, p.high)) in
    record { value = v; below = lt; least = low.0; least_is = low.1; above = omega (arith, ints, p.low, low.1); most = high.0; most_is = high.1; within = omega (arith, ints, p.high, high.1) }

-- a natural number up to a limit
in_natural : (high : ℤ) (w : ℕ) → w < 2 ^ 31 → pos w ≤ℤ high → Has (between (pos 0) high) w
in_natural high w h p = let v = small_value w h in in_between (pos 0) high w (omega (arith, ints)) (omega (arith, ints))

times_is : (x y : ℤ) (m n : ℕ) → x ≡ pos m → y ≡ pos n → x *ℤ y ≡ pos (m * n)
times_is x y m n e f = ap (λ z. z *ℤ y) e ∙ ap (λ z. pos m *ℤ z) f

quotient_is : (x y : ℤ) (m n : ℕ) → x ≡ pos m → y ≡ pos n → int_div x y ≡ pos (m / n)
quotient_is x y m n e f = ap (λ z. int_div z y) e ∙ ap (λ z. int_div (pos m) z) f

pub product_sound : (a b : Range) (x y : ℕ) → IsWord x → IsWord y → Has a x → Has b y → Has (product a b) (mul x y)
product_sound a b x y h k p q =
    when_if (λ r. Has r (mul x y)) (is_natural a.low && is_natural b.low) (fitting (a.low *ℤ b.low) (a.high *ℤ b.high)) all_words (λ e.
    let n = both (is_natural a.low) (is_natural b.low) e in
    let s = small a x h n.0 p in
    let t = small b y k n.1 q in
    let low = times_is a.low b.low s.least t.least s.least_is t.least_is in
    let high = times_is a.high b.high s.most t.most s.most_is t.most_is in
    in_fitting (a.low *ℤ b.low) (a.high *ℤ b.high) (mul x y) (IsWord-mul x y) (λ u v.
    let l = mul-le s.least t.least x y s.above t.above in
    let m = mul-le x y s.most t.most s.within t.within in
    let lt : x * y < 2 ^ 31 = omega (arith, ints, v, high, m) in
    let same : mul x y ≡ x * y = omega arith in
    let value = small_value (mul x y) (omega (arith, lt, same)) in
    (omega (arith, ints, value, same, low, l), omega (arith, ints, value, same, high, m))))
    (λ e. in_all (mul x y) (IsWord-mul x y))

-- ---- bits

pub conjunction_sound : (a b : Range) (x y : ℕ) → IsWord x → IsWord y → Has a x → Has b y → Has (conjunction a b) (and x y)
conjunction_sound a b x y h k p q =
    let l = and_le_l x y in
    let r = and_le_r x y in
    when_if (λ o. Has o (and x y)) (is_natural a.low) (between (pos 0) (if is_natural b.low then minimum a.high b.high else a.high)) (if is_natural b.low then between (pos 0) b.high else all_words)
    (λ e. let s = small a x h e p in in_natural (if is_natural b.low then minimum a.high b.high else a.high) (and x y) (omega (arith, l, s.below))
    (when_if (λ o. pos (and x y) ≤ℤ o) (is_natural b.low) (minimum a.high b.high) a.high
    (λ f. let t = small b y k f q in when_if (λ o. pos (and x y) ≤ℤ o) (int_le a.high b.high) a.high b.high (λ _. omega (arith, ints, l, s.most_is, s.within)) (λ _. omega (arith, ints, r, t.most_is, t.within)))
    (λ f. omega (arith, ints, l, s.most_is, s.within))))
    (λ e. when_if (λ o. Has o (and x y)) (is_natural b.low) (between (pos 0) b.high) all_words
    (λ f. let t = small b y k f q in in_natural b.high (and x y) (omega (arith, r, t.below)) (omega (arith, ints, r, t.most_is, t.within)))
    (λ f. in_all (and x y) (omega (arith, l, h))))

below_power_sound : (m : ℤ) (w : ℕ) → w < 2 ^ 31 → (m <ℤ pos (2 ^ 8) → w < 2 ^ 8) → (m <ℤ pos (2 ^ 16) → w < 2 ^ 16) → Has (below_power m) w
below_power_sound m w h f g =
    when_if (λ o. Has o w) (int_lt m (pos (2 ^ 8))) (between (pos 0) (pos (2 ^ 8 - 1))) (if int_lt m (pos (2 ^ 16)) then between (pos 0) (pos (2 ^ 16 - 1)) else between (pos 0) greatest)
    (λ e. let lt = f (grind (arith, ints)) in in_natural (pos (2 ^ 8 - 1)) w h (omega (arith, ints)))
    (λ _. when_if (λ o. Has o w) (int_lt m (pos (2 ^ 16))) (between (pos 0) (pos (2 ^ 16 - 1))) (between (pos 0) greatest)
    (λ e. let lt = g (grind (arith, ints)) in in_natural (pos (2 ^ 16 - 1)) w h (omega (arith, ints)))
    (λ _. in_natural greatest w h (omega (arith, ints))))

at_most_maximum : (a b : ℤ) → (a ≤ℤ maximum a b) × (b ≤ℤ maximum a b)
at_most_maximum a b = when_if (λ m. (a ≤ℤ m) × (b ≤ℤ m)) (int_le a b) b a (λ e. (grind (arith, ints), omega (arith, ints))) (λ e. (omega (arith, ints), grind (arith, ints)))

-- an operation on bits that gives a number of k bits from two such numbers
pub combination_sound : (a b : Range) (x y w : ℕ) → IsWord x → IsWord y → IsWord w → ((k : ℕ) → x < 2 ^ k → y < 2 ^ k → w < 2 ^ k) → Has a x → Has b y → Has (combination a b) w
combination_sound a b x y w h k i f p q =
    when_if (λ o. Has o w) (is_natural a.low && is_natural b.low) (below_power (maximum a.high b.high)) all_words
    (λ e. let n = both (is_natural a.low) (is_natural b.low) e in
    let s = small a x h n.0 p in
    let t = small b y k n.1 q in
    let m = at_most_maximum a.high b.high in
    below_power_sound (maximum a.high b.high) w (f 31 s.below t.below)
    (λ lt. f 8 (omega (arith, ints, lt, m.0, s.most_is, s.within)) (omega (arith, ints, lt, m.1, t.most_is, t.within)))
    (λ lt. f 16 (omega (arith, ints, lt, m.0, s.most_is, s.within)) (omega (arith, ints, lt, m.1, t.most_is, t.within))))
    (λ e. in_all w i)

-- ---- quotients and remainders

from_none : (b : Bool) (v w : ℕ) → (if b then None else Some v) ≡ Some w → (b ≡ false) × (v ≡ w)
from_none true v w e = absurd (let f : None ≡ Some w = e in cc)
from_none false v w e = (refl, some_is v w e)

from_some : (b : Bool) (v w : ℕ) → (if b then Some v else None) ≡ Some w → (b ≡ true) × (v ≡ w)
from_some true v w e = (refl, some_is v w e)
from_some false v w e = absurd (let f : None ≡ Some w = e in cc)

div_monotone : (x y m n : ℕ) → x ≤ m → 0 < n → n ≤ y → x / y ≤ m / n
div_monotone x y m n h k l =
    le-div (x / y) m n k (le_trans (mul-le-mul_left (x / y) l) (le_trans (div-mul-le_self x y) h))

greatest_quotient_sound : (a b : Range) (x y : ℕ) → Small a x → Small b y → pos (x / y) ≤ℤ greatest_quotient a b
greatest_quotient_sound a b x y s t =
    when_if (λ o. pos (x / y) ≤ℤ o) (is_positive b.low) (int_div a.high b.low) a.high
    (λ e. let n : 0 < t.least = (let f = t.least_is in grind (arith, ints)) in
    let same = quotient_is a.high b.low s.most t.least s.most_is t.least_is in
    let le = div_monotone x y s.most t.least s.within n t.above in
    omega (arith, ints, same, le))
    (λ e. omega (arith, ints, div-le_self x y, s.most_is, s.within))

pub quotient_u_sound : (a b : Range) (x y w : ℕ) → IsWord x → IsWord y → Has a x → Has b y → div_u x y ≡ Some w → Has (quotient_u a b) w
quotient_u_sound a b x y w h k p q e =
    let same = (from_none (y == 0) (x / y) w e).1 in
    let le = div-le_self x y in
    subst (λ v. Has (quotient_u a b) v) same
    (when_if (λ o. Has o (x / y)) (is_natural a.low) (between (pos 0) (if is_natural b.low then greatest_quotient a b else a.high)) all_words
    (λ n. let s = small a x h n p in in_natural (if is_natural b.low then greatest_quotient a b else a.high) (x / y) (omega (arith, le, s.below))
    (when_if (λ o. pos (x / y) ≤ℤ o) (is_natural b.low) (greatest_quotient a b) a.high (λ m. greatest_quotient_sound a b x y s (small b y k m q)) (λ _. omega (arith, ints, le, s.most_is, s.within))))
    (λ _. in_all (x / y) (omega (arith, le, h))))

pub quotient_s_sound : (a b : Range) (x y w : ℕ) → IsWord x → IsWord y → Has a x → Has b y → div_s x y ≡ Some w → Has (quotient_s a b) w
quotient_s_sound a b x y w h k p q e =
    when_if (λ o. Has o w) (is_natural a.low && is_natural b.low) (between (pos 0) (greatest_quotient a b)) all_words
    (λ f. let n = both (is_natural a.low) (is_natural b.low) f in
    let s = small a x h n.0 p in
    let t = small b y k n.1 q in
    let value = signed_value-div_s x y w h k e ∙ quotient_is (signed_value x) (signed_value y) x y s.value t.value in
    in_between (pos 0) (greatest_quotient a b) w (omega (arith, ints, value)) (let le = greatest_quotient_sound a b x y s t in omega (arith, ints, value, le)))
    (λ _. in_all w (IsWord-div_s x y w e))

-- a remainder is between 0 and the dividend
neg_between : (m n : ℕ) → n ≤ suc m → (negsuc m ≤ℤ neg_ℤ (pos n)) × (neg_ℤ (pos n) ≤ℤ pos 0)
neg_between m zero h = (omega (arith, ints), omega (arith, ints))
neg_between m (suc n) h = (omega (arith, ints), omega (arith, ints))

remainder_toward : (x y : ℤ) → (minimum x (pos 0) ≤ℤ int_rem x y) × (int_rem x y ≤ℤ maximum x (pos 0))
remainder_toward (pos m) y = let le = mod-le m (unsigned_abs y) in (
  when_if (λ o. o ≤ℤ pos (m % unsigned_abs y)) (int_le (pos m) (pos 0)) (pos m) (pos 0) (λ e. grind (arith, ints)) (λ e. omega (arith, ints)),
  when_if (λ o. pos (m % unsigned_abs y) ≤ℤ o) (int_le (pos m) (pos 0)) (pos 0) (pos m) (λ e. grind (arith, ints)) (λ e. omega (arith, ints, le)),
)
remainder_toward (negsuc m) y = let le = neg_between m (suc m % unsigned_abs y) (mod-le (suc m) (unsigned_abs y)) in (le.0, le.1)

minimum_monotone : (x a : ℤ) → a ≤ℤ x → minimum a (pos 0) ≤ℤ minimum x (pos 0)
minimum_monotone x a h = grind (arith, ints)

maximum_monotone : (x a : ℤ) → x ≤ℤ a → maximum x (pos 0) ≤ℤ maximum a (pos 0)
maximum_monotone x a h = grind (arith, ints)

abs_below : (z : ℤ) (n : ℕ) → unsigned_abs z < n → ((pos 1 -ℤ pos n) ≤ℤ z) × (z ≤ℤ (pos n -ℤ pos 1))
abs_below (pos m) n h = (omega (arith, ints), omega (arith, ints))
abs_below (negsuc m) n h = (omega (arith, ints), omega (arith, ints))

pub remainder_s_sound : (a b : Range) (x y w : ℕ) → IsWord x → IsWord y → Has a x → Has b y → rem_s x y ≡ Some w → Has (remainder_s a b) w
remainder_s_sound a b x y w h k p q e =
    let low = minimum a.low (pos 0) in
    let high = maximum a.high (pos 0) in
    let value = signed_value-rem_s x y w h e in
    let toward = remainder_toward (signed_value x) (signed_value y) in
    let l : low ≤ℤ signed_value w = (let m = minimum_monotone (signed_value x) a.low p.low in omega (arith, ints, value, toward.0, m)) in
    let u : signed_value w ≤ℤ high = (let m = maximum_monotone (signed_value x) a.high p.high in omega (arith, ints, value, toward.1, m)) in
    when_if (λ o. Has o w) (is_positive b.low) (nearer (toward_zero a) b) (toward_zero a)
    (λ f. let t = small b y k (grind (arith, ints)) q in
    let abs : unsigned_abs (signed_value w) < y = subst (λ z. unsigned_abs (signed_value w) < unsigned_abs z) t.value (remainder_below x y w h k e) in
    let near = abs_below (signed_value w) y abs in
    in_fitting (maximum low (pos 1 -ℤ b.high)) (minimum high (b.high -ℤ pos 1)) w (IsWord-rem_s x y w e) (λ _ _. (
      when_if (λ o. o ≤ℤ signed_value w) (int_le low (pos 1 -ℤ b.high)) (pos 1 -ℤ b.high) low (λ _. omega (arith, ints, near.0, t.most_is, t.within)) (λ _. l),
      when_if (λ o. signed_value w ≤ℤ o) (int_le high (b.high -ℤ pos 1)) high (b.high -ℤ pos 1) (λ _. u) (λ _. omega (arith, ints, near.1, t.most_is, t.within)),
    )))
    (λ f. in_between low high w l u)

pub remainder_u_sound : (a b : Range) (x y w : ℕ) → IsWord x → IsWord y → Has a x → Has b y → rem_u x y ≡ Some w → Has (remainder_u a b) w
remainder_u_sound a b x y w h k p q e =
    let given = from_none (y == 0) (x % y) w e in
    let le = mod-le x y in
    let lt : x % y < y = (let z = given.0 in let n : 0 < y = grind (arith, nat_tests) in mod-lt x n) in
    subst (λ v. Has (remainder_u a b) v) given.1
    (when_if (λ o. Has o (x % y)) (is_positive b.low) (if is_natural a.low then fitting (pos 0) (minimum a.high (b.high -ℤ pos 1)) else fitting (pos 0) (b.high -ℤ pos 1)) (if is_natural a.low then between (pos 0) a.high else all_words)
    (λ f. let t = small b y k (grind (arith, ints)) q in
    let below : x % y < 2 ^ 31 = omega (arith, lt, t.below) in
    let v = small_value (x % y) below in
    let near : signed_value (x % y) ≤ℤ (b.high -ℤ pos 1) = omega (arith, ints, v, lt, t.most_is, t.within) in
    let positive : pos 0 ≤ℤ signed_value (x % y) = omega (arith, ints, v) in
    when_if (λ o. Has o (x % y)) (is_natural a.low) (fitting (pos 0) (minimum a.high (b.high -ℤ pos 1))) (fitting (pos 0) (b.high -ℤ pos 1))
    (λ n. let s = small a x h n p in in_fitting (pos 0) (minimum a.high (b.high -ℤ pos 1)) (x % y) (omega (arith, below)) (λ _ _. (
      positive,
      when_if (λ o. signed_value (x % y) ≤ℤ o) (int_le a.high (b.high -ℤ pos 1)) a.high (b.high -ℤ pos 1) (λ _. omega (arith, ints, v, le, s.most_is, s.within)) (λ _. near),
    )))
    (λ _. in_fitting (pos 0) (b.high -ℤ pos 1) (x % y) (omega (arith, below)) (λ _ _. (positive, near))))
    (λ f. when_if (λ o. Has o (x % y)) (is_natural a.low) (between (pos 0) a.high) all_words
    (λ n. let s = small a x h n p in in_natural a.high (x % y) (omega (arith, le, s.below)) (omega (arith, ints, le, s.most_is, s.within)))
    (λ _. in_all (x % y) (omega (arith, le, h)))))

-- ---- shifts

quotient_below : (m n d : ℕ) → m ≤ n → 0 < d → m / d ≤ n / d
quotient_below m n d h k = div_monotone m d n d h k (omega arith)

shr_monotone : (x y : ℤ) (d : ℕ) → 0 < d → x ≤ℤ y → shr_z x d ≤ℤ shr_z y d
shr_monotone (pos m) (pos n) d k h = let le = quotient_below m n d (omega (arith, ints)) k in omega (arith, ints)
shr_monotone (pos m) (negsuc n) d k h = absurd (omega (arith, ints))
shr_monotone (negsuc m) (pos n) d k h = omega (arith, ints)
shr_monotone (negsuc m) (negsuc n) d k h = let le = quotient_below n m d (omega (arith, ints)) k in omega (arith, ints)

-- a range with a count has only that word
count_is : (b : Range) (y : ℕ) → IsWord y → Has b y → nat_lt (count b) 32 ≡ true → (count b ≡ y) × (y < 32)
count_is b y h q e = by (int_eq b.low b.high && is_natural b.low && int_lt b.low (pos 32)) refl e
  where
    by : (t : Bool) → (int_eq b.low b.high && is_natural b.low && int_lt b.low (pos 32)) ≡ t → nat_lt (if t then unsigned_abs b.low else 32) 32 ≡ true → ((if t then unsigned_abs b.low else 32) ≡ y) × (y < 32)
    by true f g =
        let p = both (int_eq b.low b.high && is_natural b.low) (int_lt b.low (pos 32)) f in
        let r = both (int_eq b.low b.high) (is_natural b.low) p.0 in
        let t = small b y h r.1 q in
        let same : b.low ≡ b.high = grind (arith, ints) in
        let abs : unsigned_abs b.low ≡ t.least = ap unsigned_abs t.least_is in
        let lt : b.low <ℤ pos 32 = grind (arith, ints) in
        (omega (arith, ints, abs, same, t.least_is, t.most_is, t.above, t.within), omega (arith, ints, lt, same, t.least_is, t.most_is, t.above, t.within))
    by false f g = absurd (let z : nat_lt 32 32 ≡ true = g in let y : false ≡ true = z in cc)

pow_above : (k : ℕ) → 0 < 2 ^ k
pow_above k = pow_pos k

shifted_within : (a b : Range) (x y w : ℕ) → IsWord x → IsWord y → IsWord w → Has a x → Has b y → signed_value w ≡ int_shr (signed_value x) y → Has (shifted_s a b) w
shifted_within a b x y w h k i p q value =
    when_if (λ o. Has o w) (nat_lt (count b) 32) (between (int_shr a.low (count b)) (int_shr a.high (count b))) (if is_natural a.low then between (pos 0) a.high else all_words)
    (λ e. let c = count_is b y k q e in
    let d = pow_above y in
    let l = shr_monotone a.low (signed_value x) (2 ^ y) d p.low in
    let u = shr_monotone (signed_value x) a.high (2 ^ y) d p.high in
    subst (λ n. Has (between (int_shr a.low n) (int_shr a.high n)) w) (sym c.0)
    (in_between (int_shr a.low y) (int_shr a.high y) w (subst (λ z. int_shr a.low y ≤ℤ z) (sym value) l) (subst (λ z. z ≤ℤ int_shr a.high y) (sym value) u)))
    (λ _. when_if (λ o. Has o w) (is_natural a.low) (between (pos 0) a.high) all_words
    (λ n. let s = small a x h n p in
    let is : signed_value w ≡ pos (x / 2 ^ y) = value ∙ ap (λ z. int_shr z y) s.value in
    in_between (pos 0) a.high w (omega (arith, ints, is)) (let le = div-le_self x (2 ^ y) in omega (arith, ints, is, le, s.most_is, s.within)))
    (λ _. in_all w i))

pub shifted_s_sound : (a b : Range) (x y w : ℕ) → IsWord x → IsWord y → Has a x → Has b y → shr_s x y ≡ Some w → Has (shifted_s a b) w
shifted_s_sound a b x y w h k p q e = shifted_within a b x y w h k (IsWord-shr_s x y w e) p q (signed_value-shr_s x y w h e)

pub half_power : (x k : ℕ) → x < 2 ^ 32 → 0 < k → x / 2 ^ k < 2 ^ 31
half_power x k h p = shr_below x 31 k (let le = pow-le-pow_right {n = 2} (omega arith) {i = 32} {j = 31 + k} (omega arith) in omega arith)

pub shifted_u_sound : (a b : Range) (x y w : ℕ) → IsWord x → IsWord y → Has a x → Has b y → shr_u x y ≡ Some w → Has (shifted_u a b) w
shifted_u_sound a b x y w h k p q e =
    let given = from_some (nat_lt y 32) (x / 2 ^ y) w e in
    let le = div-le_self x (2 ^ y) in
    subst (λ v. Has (shifted_u a b) v) given.1
    (when_if (λ o. Has o (x / 2 ^ y)) (is_natural a.low) (shifted_s a b) (high_bits (count b))
    (λ n. let s = small a x h n p in
    let v = small_value (x / 2 ^ y) (omega (arith, le, s.below)) in
    shifted_within a b x y (x / 2 ^ y) h k (omega (arith, le, h)) p q (v ∙ ap (λ z. int_shr z y) (sym s.value)))
    (λ _. when_if (λ o. Has o (x / 2 ^ y)) (nat_lt 0 (count b) && nat_lt (count b) 32) (between (pos 0) (pos ((2 ^ 32 - 1) / 2 ^ count b))) all_words
    (λ f. let g = both (nat_lt 0 (count b)) (nat_lt (count b) 32) f in
    let c = count_is b y k q g.1 in
    let n : 0 < y = (let m = c.0 in let z = g.0 in grind (arith, nat_tests)) in
    let below = half_power x y h n in
    let most = quotient_below x (2 ^ 32 - 1) (2 ^ y) (omega arith) (pow_above y) in
    subst (λ m. Has (between (pos 0) (pos ((2 ^ 32 - 1) / 2 ^ m))) (x / 2 ^ y)) (sym c.0) (in_natural (pos ((2 ^ 32 - 1) / 2 ^ y)) (x / 2 ^ y) below (omega (arith, ints, most))))
    (λ _. in_all (x / 2 ^ y) (omega (arith, le, h)))))

-- ---- all operators

truth_in : (b : Bool) → Has truth_words (truth_value b)
truth_in true = record { low = omega (arith, ints); high = omega (arith, ints); nonzero = λ e. absurd (let f : false ≡ true = e in cc) }
truth_in false = record { low = omega (arith, ints); high = omega (arith, ints); nonzero = λ e. absurd (let f : false ≡ true = e in cc) }

has_some : (r : Range) (v w : ℕ) → Has r v → Some v ≡ Some w → Has r w
has_some r v w p e = subst (λ z. Has r z) (some_is v w e) p

pub unary_sound : UnaryIsSound
unary_sound Neg a x h p = difference_sound (only 0) a 0 x (omega arith) h (in_between (pos 0) (pos 0) 0 (omega (arith, ints)) (omega (arith, ints))) p
unary_sound Complement a x h p = in_all _ (IsWord-complement x)
unary_sound IsZero a x h p = truth_in (x == 0)

pub binary_sound : BinaryIsSound
binary_sound Add a b x y w h k p q e = has_some _ _ w (sum_sound a b x y h k p q) e
binary_sound Sub a b x y w h k p q e = has_some _ _ w (difference_sound a b x y h k p q) e
binary_sound Mul a b x y w h k p q e = has_some _ _ w (product_sound a b x y h k p q) e
binary_sound DivS a b x y w h k p q e = quotient_s_sound a b x y w h k p q e
binary_sound DivU a b x y w h k p q e = quotient_u_sound a b x y w h k p q e
binary_sound RemS a b x y w h k p q e = remainder_s_sound a b x y w h k p q e
binary_sound RemU a b x y w h k p q e = remainder_u_sound a b x y w h k p q e
binary_sound Shl a b x y w h k p q e = in_all w (IsWord-shl x y w e)
binary_sound ShrS a b x y w h k p q e = shifted_s_sound a b x y w h k p q e
binary_sound ShrU a b x y w h k p q e = shifted_u_sound a b x y w h k p q e
binary_sound And a b x y w h k p q e = has_some _ _ w (conjunction_sound a b x y h k p q) e
binary_sound Or a b x y w h k p q e = has_some _ _ w (combination_sound a b x y (or x y) h k (or_lt 32 x y h k) (λ n. or_lt n x y) p q) e
binary_sound Xor a b x y w h k p q e = has_some _ _ w (combination_sound a b x y (xor x y) h k (xor_lt 32 x y h k) (λ n. xor_lt n x y) p q) e
binary_sound Eq a b x y w h k p q e = has_some _ _ w (truth_in _) e
binary_sound Ne a b x y w h k p q e = has_some _ _ w (truth_in _) e
binary_sound LtS a b x y w h k p q e = has_some _ _ w (truth_in _) e
binary_sound LtU a b x y w h k p q e = has_some _ _ w (truth_in _) e
binary_sound LeS a b x y w h k p q e = has_some _ _ w (truth_in _) e
binary_sound LeU a b x y w h k p q e = has_some _ _ w (truth_in _) e
