-- A covered operator has a value, and the operands of a comparison are in the ranges that it shows.
use Rattle.std.proofs.Common.{◌≡◌, ◌≢◌, ℕ, ◌-◌, ◌^◌, ◌<◌, ◌≤◌, Bool, true, false, ◌==◌, Some, None, pos, ◌+ℤ◌, ◌-ℤ◌, ◌<ℤ◌, ◌≤ℤ◌, refl, sym, ap, ◌∙◌, subst, arith}
use Rattle.std.specs.Prelude.{if◌then◌else◌, ◌&&◌, ◌||◌, not, nat_lt, nat_le, int_lt, int_le, bit_xor}
use Rattle.std.specs.Ordering.{int_eq}
use Rattle.std.specs.Int.Bits.{xor_self, xor_zero_l, xor_zero_r, xor_assoc}
use Rattle.std.proofs.lemmas.Int.{ints}
use Rattle.std.proofs.lemmas.Bool.Decides.{nat_tests}
use Rattle.cc_words.specs.declared.operators.Binary.TheVariants.{Add, Sub, Mul, DivS, DivU, RemS, RemU, Shl, ShrS, ShrU, And, Or, Xor, Eq, Ne, LtS, LtU, LeS, LeU}
use Rattle.cc_words.specs.Words.{signed_value, truth_value, xor, lacks_quotient}
use Rattle.cc_range.specs.declared.range.Range.{Range}
use Rattle.cc_range.specs.declared.learning.Learned.{Learned}
use Rattle.cc_range.specs.Range.{Has, least, greatest, is_natural, is_positive, is_negative, all_words, nonzero_words, excludes_zero, divides, is_count, below, above, at_most, at_least, without, natural, nothing, learned_less, learned_at_most, learned_equal, learned_different, learned_less_u, learned_at_most_u}
use Rattle.cc_range.specs.Laws.{CoveredHasValue, LearnedIsSound}
use Rattle.cc_range.proofs.Sound.{some_is, both, when_if, in_all, in_between, zero_value, small, small_value}

-- ---- operators that are covered

some_answer : (b : Bool) (v : ℕ) → b ≡ false → (w : ℕ) × ((if b then None else Some v) ≡ Some w)
some_answer true v e = absurd (let f : true ≡ false = e in cc)
some_answer false v e = (v, refl)

counted : (b : Bool) (v : ℕ) → b ≡ true → (w : ℕ) × ((if b then Some v else None) ≡ Some w)
counted true v e = (v, refl)
counted false v e = absurd (let f : false ≡ true = e in cc)

-- a range that excludes 0 has no 0
no_zero : (r : Range) (w : ℕ) → excludes_zero r ≡ true → Has r w → (w == 0) ≡ false
no_zero r w e p = by r.is_nonzero (is_positive r.low) (is_negative r.high) refl refl refl e
  where
    by : (a b c : Bool) → r.is_nonzero ≡ a → is_positive r.low ≡ b → is_negative r.high ≡ c → (a || b || c) ≡ true → (w == 0) ≡ false
    by true b c f g h t = let ne = p.nonzero f in grind (arith, nat_tests)
    by false true c f g h t = let ne : w ≢ 0 = (λ z. let v = zero_value w z in let lt : pos 0 <ℤ r.low = grind (arith, ints) in absurd (omega (arith, ints, lt, v, p.low))) in grind (arith, nat_tests)
    by false false true f g h t = let ne : w ≢ 0 = (λ z. let v = zero_value w z in let lt : r.high <ℤ pos 0 = grind (arith, ints) in absurd (omega (arith, ints, lt, v, p.high))) in grind (arith, nat_tests)
    by false false false f g h t = absurd (let z : false ≡ true = t in cc)

lacks_none : (p q r : Bool) → p ≡ false → (q ≡ true → r ≡ true → ⊥) → (p || (q && r)) ≡ false
lacks_none true q r e f = e
lacks_none false true true e f = absurd (f refl refl)
lacks_none false true false e f = refl
lacks_none false false r e f = refl

least_value : (x : ℕ) → (x == 2 ^ 31) ≡ true → signed_value x ≡ least
least_value x e = let f : x ≡ 2 ^ 31 = grind (arith, nat_tests) in ap signed_value f

minus_one_value : (y : ℕ) → (y == 2 ^ 32 - 1) ≡ true → signed_value y ≡ pos 0 -ℤ pos 1
minus_one_value y e = let f : y ≡ 2 ^ 32 - 1 = grind (arith, nat_tests) in ap signed_value f

-- the operands are not -2147483648 and -1
not_both : (a b : Range) (x y : ℕ) → (int_lt least a.low || int_lt b.high (pos 0 -ℤ pos 1) || int_lt (pos 0 -ℤ pos 1) b.low) ≡ true → Has a x → Has b y → (x == 2 ^ 31) ≡ true → (y == 2 ^ 32 - 1) ≡ true → ⊥
not_both a b x y e p q f g = by (int_lt least a.low) (int_lt b.high (pos 0 -ℤ pos 1)) (int_lt (pos 0 -ℤ pos 1) b.low) refl refl refl e
  where
    by : (c d t : Bool) → int_lt least a.low ≡ c → int_lt b.high (pos 0 -ℤ pos 1) ≡ d → int_lt (pos 0 -ℤ pos 1) b.low ≡ t → (c || d || t) ≡ true → ⊥
    by true d t u v w z = let l = least_value x f in let lt : least <ℤ a.low = grind (arith, ints) in omega (arith, ints, l, lt, p.low)
    by false true t u v w z = let l = minus_one_value y g in let lt : b.high <ℤ (pos 0 -ℤ pos 1) = grind (arith, ints) in omega (arith, ints, l, lt, q.high)
    by false false true u v w z = let l = minus_one_value y g in let lt : (pos 0 -ℤ pos 1) <ℤ b.low = grind (arith, ints) in omega (arith, ints, l, lt, q.low)
    by false false false u v w z = let y : false ≡ true = z in cc

has_quotient : (a b : Range) (x y v : ℕ) → divides a b ≡ true → Has a x → Has b y → (w : ℕ) × ((if lacks_quotient x y then None else Some v) ≡ Some w)
has_quotient a b x y v e p q =
    let s = both (excludes_zero b) (int_lt least a.low || int_lt b.high (pos 0 -ℤ pos 1) || int_lt (pos 0 -ℤ pos 1) b.low) e in
    some_answer (lacks_quotient x y) v (lacks_none (y == 0) (x == 2 ^ 31) (y == 2 ^ 32 - 1) (no_zero b y s.0 q) (not_both a b x y s.1 p q))

count_below : (b : Range) (y : ℕ) → y < 2 ^ 32 → is_count b ≡ true → Has b y → nat_lt y 32 ≡ true
count_below b y h e q =
    let s = both (is_natural b.low) (int_lt b.high (pos 32)) e in
    let t = small b y h s.0 q in
    let lt : b.high <ℤ pos 32 = (let f = s.1 in grind (arith, ints)) in
    let below : y < 32 = omega (arith, ints, lt, t.most_is, t.within) in
    grind (arith, nat_tests)

pub covered_has_value : CoveredHasValue
covered_has_value Add a b x y h k e p q = (_, refl)
covered_has_value Sub a b x y h k e p q = (_, refl)
covered_has_value Mul a b x y h k e p q = (_, refl)
covered_has_value DivS a b x y h k e p q = has_quotient a b x y _ e p q
covered_has_value DivU a b x y h k e p q = some_answer (y == 0) _ (no_zero b y e q)
covered_has_value RemS a b x y h k e p q = has_quotient a b x y _ e p q
covered_has_value RemU a b x y h k e p q = some_answer (y == 0) _ (no_zero b y e q)
covered_has_value Shl a b x y h k e p q = counted (nat_lt y 32) _ (count_below b y k e q)
covered_has_value ShrS a b x y h k e p q = counted (nat_lt y 32) _ (count_below b y k e q)
covered_has_value ShrU a b x y h k e p q = counted (nat_lt y 32) _ (count_below b y k e q)
covered_has_value And a b x y h k e p q = (_, refl)
covered_has_value Or a b x y h k e p q = (_, refl)
covered_has_value Xor a b x y h k e p q = (_, refl)
covered_has_value Eq a b x y h k e p q = (_, refl)
covered_has_value Ne a b x y h k e p q = (_, refl)
covered_has_value LtS a b x y h k e p q = (_, refl)
covered_has_value LtU a b x y h k e p q = (_, refl)
covered_has_value LeS a b x y h k e p q = (_, refl)
covered_has_value LeU a b x y h k e p q = (_, refl)

-- ---- what comparisons show

above_least : (x : ℕ) → x < 2 ^ 32 → least ≤ℤ signed_value x
above_least x h = grind (arith, ints)

below_greatest : (x : ℕ) → x < 2 ^ 32 → signed_value x ≤ℤ greatest
below_greatest x h = grind (arith, ints)

-- a number below one of a range, above one, at most one, at least one
in_below : (r : Range) (x y : ℕ) → x < 2 ^ 32 → Has r y → signed_value x <ℤ signed_value y → Has (below r) x
in_below r x y h q lt =
    in_between least (if int_eq r.high least then least else (r.high -ℤ pos 1)) x (above_least x h)
    (when_if (λ o. signed_value x ≤ℤ o) (int_eq r.high least) least (r.high -ℤ pos 1) (λ e. let f : r.high ≡ least = grind (arith, ints) in let l = above_least x h in absurd (omega (arith, ints, f, l, lt, q.high))) (λ _. omega (arith, ints, lt, q.high)))

in_above : (r : Range) (x y : ℕ) → y < 2 ^ 32 → Has r x → signed_value x <ℤ signed_value y → Has (above r) y
in_above r x y h p lt =
    in_between (if int_eq r.low greatest then greatest else (r.low +ℤ pos 1)) greatest y
    (when_if (λ o. o ≤ℤ signed_value y) (int_eq r.low greatest) greatest (r.low +ℤ pos 1) (λ e. let f : r.low ≡ greatest = grind (arith, ints) in let l = below_greatest y h in absurd (omega (arith, ints, f, l, lt, p.low))) (λ _. omega (arith, ints, lt, p.low)))
    (below_greatest y h)

in_at_most : (r : Range) (x y : ℕ) → x < 2 ^ 32 → Has r y → signed_value x ≤ℤ signed_value y → Has (at_most r) x
in_at_most r x y h q le = in_between least r.high x (above_least x h) (omega (arith, ints, le, q.high))

in_at_least : (r : Range) (x y : ℕ) → y < 2 ^ 32 → Has r x → signed_value x ≤ℤ signed_value y → Has (at_least r) y
in_at_least r x y h p le = in_between r.low greatest y (omega (arith, ints, le, p.low)) (below_greatest y h)

in_natural_part : (r : Range) (x : ℕ) → pos 0 ≤ℤ signed_value x → Has r x → Has (natural r) x
in_natural_part r x h p = record { low = when_if (λ o. o ≤ℤ signed_value x) (int_le (pos 0) r.low) r.low (pos 0) (λ _. p.low) (λ _. h); high = p.high; nonzero = p.nonzero }

abbrev LearnedOf : Learned → ℕ → ℕ → Type 0
LearnedOf l x y = Has l.left x × Has l.right y

nothing_sound : (x y : ℕ) → x < 2 ^ 32 → y < 2 ^ 32 → LearnedOf nothing x y
nothing_sound x y h k = (in_all x h, in_all y k)

less_sound : (a b : Range) (x y : ℕ) → x < 2 ^ 32 → y < 2 ^ 32 → Has a x → Has b y → signed_value x <ℤ signed_value y → LearnedOf (learned_less a b) x y
less_sound a b x y h k p q lt = (in_below b x y h q lt, in_above a x y k p lt)

at_most_sound : (a b : Range) (x y : ℕ) → x < 2 ^ 32 → y < 2 ^ 32 → Has a x → Has b y → signed_value x ≤ℤ signed_value y → LearnedOf (learned_at_most a b) x y
at_most_sound a b x y h k p q le = (in_at_most b x y h q le, in_at_least a x y k p le)

equal_sound : (a b : Range) (x y : ℕ) → Has a x → Has b y → x ≡ y → LearnedOf (learned_equal a b) x y
equal_sound a b x y p q e = (subst (λ w. Has b w) (sym e) q, subst (λ w. Has a w) e p)

-- the only number of a range
one_value : (b : Range) (y : ℕ) → int_eq b.low b.high ≡ true → Has b y → signed_value y ≡ b.low
one_value b y e q = let f : b.low ≡ b.high = grind (arith, ints) in omega (arith, ints, f, q.low, q.high)

signed_same : (x y : ℕ) → x < 2 ^ 32 → y < 2 ^ 32 → signed_value x ≡ signed_value y → x ≡ y
signed_same x y h k e = grind (arith, ints)

without_sound : (a b : Range) (x y : ℕ) → x < 2 ^ 32 → y < 2 ^ 32 → Has a x → Has b y → x ≢ y → Has (without a b) x
without_sound a b x y h k p q ne =
    when_if (λ o. Has o x) (int_eq b.low b.high) (if int_eq b.low (pos 0) then nonzero_words else (if int_eq a.low b.low then above a else (if int_eq a.high b.low then below a else all_words))) all_words
    (λ e. let v = one_value b y e q in
    when_if (λ o. Has o x) (int_eq b.low (pos 0)) nonzero_words (if int_eq a.low b.low then above a else (if int_eq a.high b.low then below a else all_words))
    (λ f. let z : b.low ≡ pos 0 = grind (arith, ints) in
    let y0 = signed_same y 0 k (omega arith) (v ∙ z) in
    record { low = above_least x h; high = below_greatest x h; nonzero = λ _ x0. ne (x0 ∙ sym y0) })
    (λ _. when_if (λ o. Has o x) (int_eq a.low b.low) (above a) (if int_eq a.high b.low then below a else all_words)
    (λ f. let z : a.low ≡ b.low = grind (arith, ints) in
    let other : signed_value x ≢ signed_value y = λ s. ne (signed_same x y h k s) in
    in_between (if int_eq a.low greatest then greatest else (a.low +ℤ pos 1)) greatest x
    (when_if (λ o. o ≤ℤ signed_value x) (int_eq a.low greatest) greatest (a.low +ℤ pos 1) (λ g. let t : a.low ≡ greatest = grind (arith, ints) in omega (arith, ints, t, p.low)) (λ _. omega (arith, ints, z, v, other, p.low)))
    (below_greatest x h))
    (λ _. when_if (λ o. Has o x) (int_eq a.high b.low) (below a) all_words
    (λ f. let z : a.high ≡ b.low = grind (arith, ints) in
    let other : signed_value x ≢ signed_value y = λ s. ne (signed_same x y h k s) in
    in_between least (if int_eq a.high least then least else (a.high -ℤ pos 1)) x (above_least x h)
    (when_if (λ o. signed_value x ≤ℤ o) (int_eq a.high least) least (a.high -ℤ pos 1) (λ g. let t : a.high ≡ least = grind (arith, ints) in omega (arith, ints, t, p.high)) (λ _. omega (arith, ints, z, v, other, p.high))))
    (λ _. in_all x h))))
    (λ _. in_all x h)

different_sound : (a b : Range) (x y : ℕ) → x < 2 ^ 32 → y < 2 ^ 32 → Has a x → Has b y → x ≢ y → LearnedOf (learned_different a b) x y
different_sound a b x y h k p q ne = (without_sound a b x y h k p q ne, without_sound b a y x k h q p (λ e. ne (sym e)))

less_u_sound : (a b : Range) (x y : ℕ) → x < 2 ^ 32 → y < 2 ^ 32 → Has a x → Has b y → x < y → LearnedOf (learned_less_u a b) x y
less_u_sound a b x y h k p q lt =
    when_if (λ o. LearnedOf o x y) (is_natural b.low) (record { left = natural (below b); right = above (natural a) }) nothing
    (λ e. let t = small b y k e q in
    let v = small_value x (omega (arith, lt, t.below)) in
    let n : pos 0 ≤ℤ signed_value x = omega (arith, ints, v) in
    let less : signed_value x <ℤ signed_value y = omega (arith, ints, v, t.value, lt) in
    (in_natural_part (below b) x n (in_below b x y h q less), in_above (natural a) x y k (in_natural_part a x n p) less))
    (λ _. nothing_sound x y h k)

at_most_u_sound : (a b : Range) (x y : ℕ) → x < 2 ^ 32 → y < 2 ^ 32 → Has a x → Has b y → x ≤ y → LearnedOf (learned_at_most_u a b) x y
at_most_u_sound a b x y h k p q le =
    when_if (λ o. LearnedOf o x y) (is_natural b.low) (record { left = natural (at_most b); right = at_least (natural a) }) nothing
    (λ e. let t = small b y k e q in
    let v = small_value x (omega (arith, le, t.below)) in
    let n : pos 0 ≤ℤ signed_value x = omega (arith, ints, v) in
    let less : signed_value x ≤ℤ signed_value y = omega (arith, ints, v, t.value, le) in
    (in_natural_part (at_most b) x n (in_at_most b x y h q less), in_at_least (natural a) x y k (in_natural_part a x n p) less))
    (λ _. nothing_sound x y h k)

-- the relation that an outcome shows
holds : (b : Bool) (w : ℕ) → Some (truth_value b) ≡ Some w → w ≢ 0 → b ≡ true
holds true w e n = refl
holds false w e n = absurd (n (sym (some_is 0 w e)))

fails : (b : Bool) (w : ℕ) → Some (truth_value b) ≡ Some w → w ≡ 0 → b ≡ false
fails true w e z = absurd (let f : 1 ≡ 0 = some_is 1 w e ∙ z in omega arith)
fails false w e z = refl

xor_same : (x y : ℕ) → xor x y ≡ 0 → x ≡ y
xor_same x y e = sym (xor_zero_r x) ∙ ap (λ z. bit_xor x z) (sym (xor_self y)) ∙ sym (xor_assoc x y y) ∙ ap (λ z. bit_xor z y) e ∙ xor_zero_l y

xor_differs : (x y : ℕ) → xor x y ≢ 0 → x ≢ y
xor_differs x y n e = n (ap (λ z. bit_xor z y) e ∙ xor_self y)

pub learned_sound : LearnedIsSound
learned_sound true Eq a b x y w h k p q e i = let t = holds (x == y) w e i in equal_sound a b x y p q (grind (arith, nat_tests))
learned_sound false Eq a b x y w h k p q e i = let t = fails (x == y) w e i in different_sound a b x y h k p q (grind (arith, nat_tests))
learned_sound true Ne a b x y w h k p q e i = let t = holds (not (x == y)) w e i in different_sound a b x y h k p q (grind (arith, nat_tests))
learned_sound false Ne a b x y w h k p q e i = let t = fails (not (x == y)) w e i in equal_sound a b x y p q (grind (arith, nat_tests))
learned_sound true Xor a b x y w h k p q e i = different_sound a b x y h k p q (xor_differs x y (λ z. i (sym (some_is _ w e) ∙ z)))
learned_sound false Xor a b x y w h k p q e i = equal_sound a b x y p q (xor_same x y (some_is _ w e ∙ i))
learned_sound true LtS a b x y w h k p q e i = let t = holds (int_lt (signed_value x) (signed_value y)) w e i in less_sound a b x y h k p q (grind (arith, ints))
learned_sound false LtS a b x y w h k p q e i =
    let t = fails (int_lt (signed_value x) (signed_value y)) w e i in
    let r = at_most_sound b a y x k h q p (grind (arith, ints)) in
    (r.1, r.0)
learned_sound true LeS a b x y w h k p q e i = let t = holds (int_le (signed_value x) (signed_value y)) w e i in at_most_sound a b x y h k p q (grind (arith, ints))
learned_sound false LeS a b x y w h k p q e i =
    let t = fails (int_le (signed_value x) (signed_value y)) w e i in
    let r = less_sound b a y x k h q p (grind (arith, ints)) in
    (r.1, r.0)
learned_sound true LtU a b x y w h k p q e i = let t = holds (nat_lt x y) w e i in less_u_sound a b x y h k p q (grind (arith, nat_tests))
learned_sound false LtU a b x y w h k p q e i =
    let t = fails (nat_lt x y) w e i in
    let r = at_most_u_sound b a y x k h q p (grind (arith, nat_tests)) in
    (r.1, r.0)
learned_sound true LeU a b x y w h k p q e i = let t = holds (nat_le x y) w e i in at_most_u_sound a b x y h k p q (grind (arith, nat_tests))
learned_sound false LeU a b x y w h k p q e i =
    let t = fails (nat_le x y) w e i in
    let r = less_u_sound b a y x k h q p (grind (arith, nat_tests)) in
    (r.1, r.0)
learned_sound true Add a b x y w h k p q e i = nothing_sound x y h k
learned_sound false Add a b x y w h k p q e i = nothing_sound x y h k
learned_sound true Sub a b x y w h k p q e i = nothing_sound x y h k
learned_sound false Sub a b x y w h k p q e i = nothing_sound x y h k
learned_sound true Mul a b x y w h k p q e i = nothing_sound x y h k
learned_sound false Mul a b x y w h k p q e i = nothing_sound x y h k
learned_sound true DivS a b x y w h k p q e i = nothing_sound x y h k
learned_sound false DivS a b x y w h k p q e i = nothing_sound x y h k
learned_sound true DivU a b x y w h k p q e i = nothing_sound x y h k
learned_sound false DivU a b x y w h k p q e i = nothing_sound x y h k
learned_sound true RemS a b x y w h k p q e i = nothing_sound x y h k
learned_sound false RemS a b x y w h k p q e i = nothing_sound x y h k
learned_sound true RemU a b x y w h k p q e i = nothing_sound x y h k
learned_sound false RemU a b x y w h k p q e i = nothing_sound x y h k
learned_sound true Shl a b x y w h k p q e i = nothing_sound x y h k
learned_sound false Shl a b x y w h k p q e i = nothing_sound x y h k
learned_sound true ShrS a b x y w h k p q e i = nothing_sound x y h k
learned_sound false ShrS a b x y w h k p q e i = nothing_sound x y h k
learned_sound true ShrU a b x y w h k p q e i = nothing_sound x y h k
learned_sound false ShrU a b x y w h k p q e i = nothing_sound x y h k
learned_sound true And a b x y w h k p q e i = nothing_sound x y h k
learned_sound false And a b x y w h k p q e i = nothing_sound x y h k
learned_sound true Or a b x y w h k p q e i = nothing_sound x y h k
learned_sound false Or a b x y w h k p q e i = nothing_sound x y h k
