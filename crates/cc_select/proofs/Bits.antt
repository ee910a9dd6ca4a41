-- Sets of registers as the bits of one word: each operation on the bits is the operation on the set, register by register. No set has a bit
-- from 32 on.
use Rattle.std.proofs.Common.{◌≡◌, ◌≢◌, ℕ, zero, suc, ◌-◌, ◌*◌, ◌%◌, ◌^◌, ◌<◌, ◌≤◌, refl, sym, ap, ◌∙◌, subst, Bool, true, false, ◌==◌, ◌&&◌, ◌||◌, not, arith, inl, inr, w32, min, max}
use Rattle.std.proofs.Math.Path.{fun_ext}
use Rattle.std.specs.Int.{bit_at, bit_not}
use Rattle.std.specs.Int.RustNames.{bit_or}
use Rattle.std.specs.Int.Bits.{bit_and}
use Rattle.std.proofs.lemmas.Nat.{and_le_l}
use Rattle.std.proofs.lemmas.Nat.Bits.{bit_at-zero, bit_at_and, bit_at_or, bit_at_not, bit_at-lt, bit_at_set_same, bit_at_set_other, bit_at_clear_same, bit_at_clear_other, bit_at_above, bit_at_ones, bit_at_ones_above, bit_at-pow_same, bit_at-pow_other, same_from_bits_below}
use Rattle.std.proofs.lemmas.Bool.{cases_eq, cases_lt, eq-eqb, ne_eqb, eqb-true}
use Rattle.std.proofs.lemmas.Bool.Decides.{nat_tests}
use Rattle.cc_simulation.specs.Unknown.{survives}
use Rattle.cc_select.specs.Live.{Registers, with, without, either, is_argument}
use Rattle.cc_select.specs.Table.{all_below}
use Rattle.cc_select.specs.internal.Sets.{every, alone, surviving, before_call, within}

-- the set of a word's bits
abbrev pub set_of : (bits : ℕ) → Registers
set_of b r = bit_at b r == 1

-- ---- one register

pub with_is : (b a : ℕ) → a < 32 → set_of (bit_or b (1 * 2 ^ a % 2 ^ 32)) ≡ with a (set_of b)
with_is b a lt = fun_ext (λ r. elim (cases_eq r a) [
  | inl e ↦ ap (λ i. bit_at (bit_or b (1 * 2 ^ a % 2 ^ 32)) i == 1) e ∙ ap (λ n. n == 1) (bit_at_set_same w32 b a lt) ∙ ap (λ t. t || set_of b r) (sym (eq-eqb a r (sym e)))
  | inr d ↦ ap (λ n. n == 1) (bit_at_set_other w32 b a lt r d) ∙ ap (λ t. t || set_of b r) (sym (ne_eqb a r (λ e. d (sym e))))
])

pub without_is : (b a : ℕ) → a < 32 → b < 2 ^ 32 → set_of (bit_and b (bit_not w32 (1 * 2 ^ a % 2 ^ 32))) ≡ without a (set_of b)
without_is b a lt fits = fun_ext (λ r. elim (cases_eq r a) [
  | inl e ↦ ap (λ i. bit_at cleared i == 1) e ∙ ap (λ n. n == 1) (bit_at_clear_same w32 b a lt) ∙ ap (λ t. not t && set_of b r) (sym (eq-eqb a r (sym e)))
  | inr d ↦ kept r d ∙ ap (λ t. not t && set_of b r) (sym (ne_eqb a r (λ e. d (sym e))))
])
  where
    cleared : ℕ
    cleared = bit_and b (bit_not w32 (1 * 2 ^ a % 2 ^ 32))

    kept : (r : ℕ) → r ≢ a → set_of cleared r ≡ set_of b r
    kept r d = elim (cases_lt r 32) [
      | inl low ↦ ap (λ n. n == 1) (bit_at_clear_other w32 b a lt r low d)
      | inr high ↦ ap (λ n. n == 1) (bit_at_above cleared 32 r (let l = and_le_l b (bit_not w32 (1 * 2 ^ a % 2 ^ 32)) in omega (arith, l, fits)) high ∙ sym (bit_at_above b 32 r fits high))
    ]

pub alone_is : (a : ℕ) → set_of (2 ^ a) ≡ alone a
alone_is a = fun_ext (λ r. elim (cases_eq r a) [
  | inl e ↦ ap (λ i. bit_at (2 ^ a) i == 1) e ∙ ap (λ n. n == 1) (bit_at-pow_same a) ∙ sym (eq-eqb a r (sym e))
  | inr d ↦ ap (λ n. n == 1) (bit_at-pow_other a r d) ∙ sym (ne_eqb a r (λ e. d (sym e)))
])

-- ---- two sets

max_bits : (p q : ℕ) → p < 2 → q < 2 → (max p q == 1) ≡ (p == 1 || q == 1)
max_bits zero zero h k = refl
max_bits zero (suc zero) h k = refl
max_bits (suc zero) zero h k = refl
max_bits (suc zero) (suc zero) h k = refl
max_bits (suc (suc p)) q h k = absurd (omega arith)
max_bits zero (suc (suc q)) h k = absurd (omega arith)
max_bits (suc zero) (suc (suc q)) h k = absurd (omega arith)

min_bits : (p q : ℕ) → p < 2 → q < 2 → (min p q == 1) ≡ (q == 1 && p == 1)
min_bits zero zero h k = refl
min_bits zero (suc zero) h k = refl
min_bits (suc zero) zero h k = refl
min_bits (suc zero) (suc zero) h k = refl
min_bits (suc (suc p)) q h k = absurd (omega arith)
min_bits zero (suc (suc q)) h k = absurd (omega arith)
min_bits (suc zero) (suc (suc q)) h k = absurd (omega arith)

or_at : (x y r : ℕ) → set_of (bit_or x y) r ≡ (set_of x r || set_of y r)
or_at x y r = ap (λ n. n == 1) (bit_at_or x y r) ∙ max_bits (bit_at x r) (bit_at y r) (bit_at-lt x r) (bit_at-lt y r)

and_at : (x y r : ℕ) → set_of (bit_and x y) r ≡ (set_of y r && set_of x r)
and_at x y r = ap (λ n. n == 1) (bit_at_and x y r) ∙ min_bits (bit_at x r) (bit_at y r) (bit_at-lt x r) (bit_at-lt y r)

pub either_is : (x y : ℕ) → set_of (bit_or x y) ≡ either (set_of x) (set_of y)
either_is x y = fun_ext (or_at x y)

-- ---- masks: each of the 32 registers is tried

abbrev same : Bool → Bool → Bool
same true b = b
same false b = not b

same_is : (a b : Bool) → same a b ≡ true → a ≡ b
same_is true true e = refl
same_is false false e = refl
same_is true false e = absurd (cc)
same_is false true e = absurd (cc)

and_parts : (a b : Bool) → (a && b) ≡ true → (a ≡ true) × (b ≡ true)
and_parts true true e = (refl, refl)
and_parts true false e = absurd (cc)
and_parts false b e = absurd (cc)

pub each_below : (n : ℕ) (f : ℕ → Bool) → all_below n f ≡ true → (r : ℕ) → r < n → f r ≡ true
each_below zero f e r lt = absurd (omega arith)
each_below (suc n) f e r lt = elim (cases_eq r n) [
  | inl here ↦ subst (λ k. f k ≡ true) (sym here) (and_parts (f n) (all_below n f) e).0
  | inr other ↦ each_below n f (and_parts (f n) (all_below n f) e).1 r (omega arith)
]

pub all_from_each : (n : ℕ) (f : ℕ → Bool) → ((r : ℕ) → r < n → f r ≡ true) → all_below n f ≡ true
all_from_each zero f h = refl
all_from_each (suc n) f h = ap (λ b. b && all_below n f) (h n (omega arith)) ∙ all_from_each n f (λ r lt. h r (omega arith))

survivors_high : (r : ℕ) → 32 ≤ r → false ≡ survives r
survivors_high r h = grind (arith, nat_tests)

arguments_high : (r : ℕ) → 32 ≤ r → false ≡ is_argument r
arguments_high r h = grind (arith, nat_tests)

survivors_are : (r : ℕ) → set_of 268174080 r ≡ survives r
survivors_are r = elim (cases_lt r 32) [
  | inl low ↦ same_is (set_of 268174080 r) (survives r) (each_below 32 (λ i. same (set_of 268174080 i) (survives i)) refl r low)
  | inr high ↦ ap (λ n. n == 1) (bit_at_above 268174080 32 r (omega arith) high) ∙ survivors_high r high
]

arguments_are : (r : ℕ) → set_of 261120 r ≡ is_argument r
arguments_are r = elim (cases_lt r 32) [
  | inl low ↦ same_is (set_of 261120 r) (is_argument r) (each_below 32 (λ i. same (set_of 261120 i) (is_argument i)) refl r low)
  | inr high ↦ ap (λ n. n == 1) (bit_at_above 261120 32 r (omega arith) high) ∙ arguments_high r high
]

pub surviving_is : (b : ℕ) → set_of (bit_and b 268174080) ≡ surviving (set_of b)
surviving_is b = fun_ext (λ r. and_at b 268174080 r ∙ ap (λ t. t && set_of b r) (survivors_are r))

pub before_call_is : (b : ℕ) → set_of (bit_or 261120 (bit_and b 268174080)) ≡ before_call (set_of b)
before_call_is b = fun_ext (λ r. or_at 261120 (bit_and b 268174080) r ∙ ap (λ t. t || set_of (bit_and b 268174080) r) (arguments_are r) ∙ ap (λ t. is_argument r || t) (ap (λ s. s r) (surviving_is b)))

pub every_is : set_of 4294967295 ≡ every
every_is = fun_ext (λ r. elim (cases_lt r 32) [
  | inl low ↦ ap (λ n. n == 1) (bit_at_ones 32 r low) ∙ sym (grind (arith, nat_tests))
  | inr high ↦ ap (λ n. n == 1) (bit_at_ones_above 32 r high) ∙ sym (grind (arith, nat_tests))
])

-- ---- one set within another

not_one : (p q : ℕ) → p < 2 → q < 2 → min p (1 - q) ≡ 0 → (not (p == 1) || q == 1) ≡ true
not_one zero q h k e = refl
not_one (suc zero) zero h k e = absurd (omega arith)
not_one (suc zero) (suc zero) h k e = refl
not_one (suc zero) (suc (suc q)) h k e = absurd (omega arith)
not_one (suc (suc p)) q h k e = absurd (omega arith)

is_none : (p q : ℕ) → p < 2 → q < 2 → (not (p == 1) || q == 1) ≡ true → min p (1 - q) ≡ 0
is_none zero q h k e = omega arith
is_none (suc zero) zero h k e = absurd (cc)
is_none (suc zero) (suc zero) h k e = refl
is_none (suc zero) (suc (suc q)) h k e = absurd (omega arith)
is_none (suc (suc p)) q h k e = absurd (omega arith)

left_at : (x y r : ℕ) → y < 2 ^ 32 → r < 32 → bit_at (bit_and x (bit_not w32 y)) r ≡ min (bit_at x r) (1 - bit_at y r)
left_at x y r fits lt = bit_at_and x (bit_not w32 y) r ∙ ap (min (bit_at x r)) (bit_at_not w32 y r fits lt)

some_left : (x y : ℕ) → x < 2 ^ 32 → y < 2 ^ 32 → within (set_of x) (set_of y) ≡ true → bit_and x (bit_not w32 y) ≡ 0
some_left x y fx fy h = same_from_bits_below 32 (bit_and x (bit_not w32 y)) 0 (let l = and_le_l x (bit_not w32 y) in omega (arith, l, fx)) (omega arith) (λ r lt.
    left_at x y r fy lt ∙ is_none (bit_at x r) (bit_at y r) (bit_at-lt x r) (bit_at-lt y r) (each_below 32 (λ i. not (set_of x i) || set_of y i) h r lt) ∙ sym (bit_at-zero r))

none_left : (x y : ℕ) → y < 2 ^ 32 → bit_and x (bit_not w32 y) ≡ 0 → within (set_of x) (set_of y) ≡ true
none_left x y fy e = all_from_each 32 (λ i. not (set_of x i) || set_of y i) (λ r lt.
    not_one (bit_at x r) (bit_at y r) (bit_at-lt x r) (bit_at-lt y r) (sym (left_at x y r fy lt) ∙ (ap (λ n. bit_at n r) e ∙ bit_at-zero r)))

two_ways : (a b : Bool) → (a ≡ true → b ≡ true) → (b ≡ true → a ≡ true) → a ≡ b
two_ways true b f g = sym (f refl)
two_ways false true f g = g refl
two_ways false false f g = refl

pub within_is : (x y : ℕ) → x < 2 ^ 32 → y < 2 ^ 32 → (bit_and x (bit_not w32 y) == 0) ≡ within (set_of x) (set_of y)
within_is x y fx fy = two_ways (bit_and x (bit_not w32 y) == 0) (within (set_of x) (set_of y)) (λ e. none_left x y fy (eqb-true (bit_and x (bit_not w32 y)) 0 e)) (λ h. eq-eqb (bit_and x (bit_not w32 y)) 0 (some_left x y fx fy h))
