-- What a row holds after each change, register by register; and what is live before a node, given what is live after it.
use Rattle.std.proofs.Common.{◌≡◌, ◌≢◌, ℕ, zero, suc, ◌*◌, ◌/◌, ◌%◌, ◌^◌, ◌<◌, List, [], ◌∷◌, ◌++◌, length, replicate, get_or, refl, sym, ap, ◌∙◌, subst, Bool, true, false, ◌==◌, ◌&&◌, ◌||◌, not, if◌then◌else◌, IsTrue, arith, inl, inr, ◌⊎◌, Contains}
use Rattle.std.specs.Prelude.{Option, Some, None}
use Rattle.std.specs.Int.{bit_at}
use Rattle.std.specs.Int.RustNames.{bit_or}
use Rattle.std.specs.Int.Bits.{or_zero_l, or_zero_r}
use Rattle.std.proofs.lemmas.Nat.Bits.{bit_at-pow_same, bit_at-pow_other}
use Rattle.std.proofs.lemmas.Bool.{cases_eq, or_cases, or_left, or_right, and_parts, and_from, not-true}
use Rattle.std.proofs.lemmas.Bool.Decides.{Decides-eqb, nat_tests}
use Rattle.cc_rtl_language.specs.Rtl.{Node, Nop, Const, Move, Unary, Binary, Load, Store, Call, Read, Write, Branch, Return}
use Rattle.cc_rtl_language.specs.Live.{reads, result, pure_result, among}
use Rattle.cc_bits.specs.Rows.{holds}
use Rattle.cc_bits.specs.internal.Holding.{bits_or, holds-nothing, within_row}
use Rattle.cc_live.specs.internal.Facts.{Below, either, single, with_all, chosen, those, but_for, is_result, is_unread, live_before}

-- ---- the bits of words

get_or-either : (a b : List ℕ) (i : ℕ) → get_or (either a b) i 0 ≡ bit_or (get_or a i 0) (get_or b i 0)
get_or-either [] b i = sym (or_zero_l (get_or b i 0))
get_or-either (x ∷ a) [] i = sym (or_zero_r (get_or (x ∷ a) i 0))
get_or-either (x ∷ a) (y ∷ b) zero = refl
get_or-either (x ∷ a) (y ∷ b) (suc i) = get_or-either a b i

pub holds-either : (a b : List ℕ) (r : ℕ) → holds (either a b) r ≡ (holds a r || holds b r)
holds-either a b r = ap (λ w. bit_at w (r % 64) == 1) (get_or-either a b (r / 64)) ∙ bits_or (get_or a (r / 64) 0) (get_or b (r / 64) 0) (r % 64)

word_same : (q w : ℕ) → get_or (replicate q 0 ++ w ∷ []) q 0 ≡ w
word_same zero w = refl
word_same (suc q) w = word_same q w

word_other : (q w i : ℕ) → q ≢ i → get_or (replicate q 0 ++ w ∷ []) i 0 ≡ 0
word_other zero w zero d = absurd (d refl)
word_other zero w (suc i) d = refl
word_other (suc q) w zero d = refl
word_other (suc q) w (suc i) d = word_other q w i (λ e. d (ap suc e))

pub holds-single : (s r : ℕ) → holds (single s) r ≡ (s == r)
holds-single s r = elim (cases_eq s r) [ inl same ↦ here same | inr other ↦ elsewhere other ]
  where
    here : s ≡ r → holds (single s) r ≡ (s == r)
    here e =
        let word : get_or (single s) (s / 64) 0 ≡ 2 ^ (s % 64) = word_same (s / 64) (2 ^ (s % 64)) in
        let bit : bit_at (get_or (single s) (s / 64) 0) (s % 64) ≡ 1 = ap (λ w. bit_at w (s % 64)) word ∙ bit_at-pow_same (s % 64) in
        let t : (s == r) ≡ true = grind (arith, nat_tests) in
        ap (holds (single s)) (sym e) ∙ (ap (λ n. n == 1) bit ∙ sym t)

    elsewhere : s ≢ r → holds (single s) r ≡ (s == r)
    elsewhere d =
        let t : (s == r) ≡ false = grind (arith, nat_tests) in
        elim (cases_eq (s / 64) (r / 64)) [
          | inl row ↦
              (let word : get_or (single s) (r / 64) 0 ≡ 2 ^ (s % 64) = ap (λ i. get_or (single s) i 0) (sym row) ∙ word_same (s / 64) (2 ^ (s % 64)) in
              let apart : r % 64 ≢ s % 64 = λ e. d (omega arith) in
              ap (λ w. bit_at w (r % 64) == 1) word ∙ (ap (λ n. n == 1) (bit_at-pow_other (s % 64) (r % 64) apart) ∙ sym t))
          | inr row ↦ ap (λ w. bit_at w (r % 64) == 1) (word_other (s / 64) (2 ^ (s % 64)) (r / 64) row) ∙ (holds-nothing r ∙ sym t)
        ]

-- ---- rows made from others

pub holds-with_all : (rs : List ℕ) (row : List ℕ) (r : ℕ) → holds (with_all rs row) r ≡ (among rs r || holds row r)
holds-with_all [] row r = refl
holds-with_all (s ∷ rs) row r =
    holds-either (single s) (with_all rs row) r ∙ (ap (λ b. b || holds (with_all rs row) r) (holds-single s r) ∙ (ap (λ b. (s == r) || b) (holds-with_all rs row r) ∙ regroup (s == r) (among rs r) (holds row r)))
  where
    regroup : (a b c : Bool) → (a || (b || c)) ≡ ((a || b) || c)
    regroup true b c = refl
    regroup false b c = refl

-- a register is chosen exactly if the row holds it and it passes the test
in_chosen : (test : ℕ → Bool) (row : List ℕ) (n r : ℕ) → IsTrue (among (chosen test row n) r) → IsTrue (holds row r) × IsTrue (test r)
in_chosen test row zero r h = absurd cc
in_chosen test row (suc n) r h = go (holds row n && test n) refl h (in_chosen test row n r)
  where
    go : (b : Bool) → (holds row n && test n) ≡ b → IsTrue (among (if b then n ∷ chosen test row n else chosen test row n) r) → (IsTrue (among (chosen test row n) r) → IsTrue (holds row r) × IsTrue (test r)) → IsTrue (holds row r) × IsTrue (test r)
    go true e i rest = elim (or_cases (n == r) (among (chosen test row n) r) i) [
      | inl same ↦ subst (λ x. IsTrue (holds row x) × IsTrue (test x)) ((Decides-eqb n r).0 same) (and_parts (holds row n) (test n) e)
      | inr later ↦ rest later
    ]
    go false e i rest = rest i

chosen_in : (test : ℕ → Bool) (row : List ℕ) (n r : ℕ) → r < n → IsTrue (holds row r) → IsTrue (test r) → IsTrue (among (chosen test row n) r)
chosen_in test row zero r h held passed = absurd (omega arith)
chosen_in test row (suc n) r h held passed = go (holds row n && test n) refl (cases_eq r n) (λ lt. chosen_in test row n r lt held passed)
  where
    go : (b : Bool) → (holds row n && test n) ≡ b → (r ≡ n) ⊎ (r ≢ n) → (r < n → IsTrue (among (chosen test row n) r)) → IsTrue (among (if b then n ∷ chosen test row n else chosen test row n) r)
    go true e (inl same) rest = or_left (n == r) (among (chosen test row n) r) (let t : (n == r) ≡ true = grind (arith, nat_tests) in t)
    go true e (inr other) rest = or_right (n == r) (among (chosen test row n) r) (rest (omega arith))
    go false e (inl same) rest = absurd (let b = and_from (holds row n) (test n) (subst (λ x. IsTrue (holds row x)) same held) (subst (λ x. IsTrue (test x)) same passed) in cc)
    go false e (inr other) rest = rest (omega arith)

pub in_with_all : (rs row : List ℕ) (r : ℕ) → IsTrue (holds (with_all rs row) r) → IsTrue (among rs r) ⊎ IsTrue (holds row r)
in_with_all rs row r h = or_cases (among rs r) (holds row r) (sym (holds-with_all rs row r) ∙ h)

pub with_all_first : (rs row : List ℕ) (r : ℕ) → IsTrue (among rs r) → IsTrue (holds (with_all rs row) r)
with_all_first rs row r h = holds-with_all rs row r ∙ or_left (among rs r) (holds row r) h

pub with_all_rest : (rs row : List ℕ) (r : ℕ) → IsTrue (holds row r) → IsTrue (holds (with_all rs row) r)
with_all_rest rs row r h = holds-with_all rs row r ∙ or_right (among rs r) (holds row r) h

pub in_those : (test : ℕ → Bool) (row : List ℕ) (r : ℕ) → IsTrue (holds (those test row) r) → IsTrue (holds row r) × IsTrue (test r)
unfolding those
in_those test row r h = elim (in_with_all (chosen test row (64 * length row)) [] r h) [
  | inl i ↦ in_chosen test row (64 * length row) r i
  | inr none ↦ absurd (let n = holds-nothing r in cc)
]

pub those_in : (test : ℕ → Bool) (row : List ℕ) (r : ℕ) → IsTrue (holds row r) → IsTrue (test r) → IsTrue (holds (those test row) r)
unfolding those
those_in test row r held passed = with_all_first (chosen test row (64 * length row)) [] r (chosen_in test row (64 * length row) r (within_row row r held) held passed)

-- ---- among some registers

pub in_list : (rs : List ℕ) (r : ℕ) → IsTrue (among rs r) → Contains rs r
in_list [] r h = absurd cc
in_list (s ∷ rs) r h = elim (or_cases (s == r) (among rs r) h) [
  | inl same ↦ (0, omega arith, (Decides-eqb s r).0 same)
  | inr later ↦ (let c = in_list rs r later in (suc c.0, (let l = c.1 in omega arith), c.2))
]

pub list_in : (rs : List ℕ) (r : ℕ) → Contains rs r → IsTrue (among rs r)
list_in [] r (k, l, e) = absurd (omega arith)
list_in (s ∷ rs) r (zero, l, e) = or_left (s == r) (among rs r) ((Decides-eqb s r).1 e)
list_in (s ∷ rs) r (suc k, l, e) = or_right (s == r) (among rs r) (list_in rs r (k, (omega arith), e))

-- ---- the step over a node

some_apart : (to r : ℕ) → Some to ≢ Some r → IsTrue (not (to == r))
some_apart to r d = go (to == r) refl
  where
    go : (b : Bool) → (to == r) ≡ b → IsTrue (not b)
    go true e = absurd (d (ap Some ((Decides-eqb to r).0 e)))
    go false e = refl

in_but_for : (o : Option ℕ) (row : List ℕ) (r : ℕ) → IsTrue (holds (but_for o row) r) → IsTrue (holds row r) × (o ≢ Some r)
in_but_for None row r h = (h, λ e. absurd (let z : None ≡ Some r = e in cc))
in_but_for (Some to) row r h =
    let i = in_those (λ x. not (to == x)) row r h in
    (i.0, λ e. absurd (let z : Some to ≡ Some r = e in let t = (Decides-eqb to r).1 (let y : to ≡ r = cc in y) in let f = not-true (to == r) i.1 in cc))

but_for_in : (o : Option ℕ) (row : List ℕ) (r : ℕ) → IsTrue (holds row r) → o ≢ Some r → IsTrue (holds (but_for o row) r)
but_for_in None row r h d = h
but_for_in (Some to) row r h d = those_in (λ x. not (to == x)) row r h (some_apart to r d)

-- a register that is held is not the unread result; and what a pure node writes is its result
other : (to r : ℕ) (row : List ℕ) → IsTrue (not (holds row to)) → IsTrue (holds row r) → Some to ≢ Some r
other to r row u h e =
    let z : Some to ≡ Some r = e in
    let y : to ≡ r = cc in
    let f = not-true (holds row to) u in
    absurd (let g : holds row to ≡ true = ap (holds row) y ∙ h in cc)

unread_apart : (n : Node) (row : List ℕ) (r : ℕ) → IsTrue (is_unread row (pure_result n)) → IsTrue (holds row r) → result n ≢ Some r
unread_apart (Const to word next) row r u h e = other to r row u h e
unread_apart (Move to from next) row r u h e = other to r row u h e
unread_apart (Unary operator to from next) row r u h e = other to r row u h e
unread_apart (Binary operator to left right next) row r u h e = other to r row u h e
unread_apart (Load width object to index next) row r u h e = other to r row u h e
unread_apart (Nop next) row r u h e = absurd cc
unread_apart (Store width object index from next) row r u h e = absurd cc
unread_apart (Call function arguments to next) row r u h e = absurd cc
unread_apart (Read to next) row r u h e = absurd cc
unread_apart (Write from next) row r u h e = absurd cc
unread_apart (Branch from _ _) row r u h e = absurd cc
unread_apart (Return from) row r u h e = absurd cc

module _ (strong : Bool) (n : Node) (row : List ℕ) where
  abbrev pub drops : Bool
  drops = strong && is_unread row (pure_result n)

  -- a register live before a node is read by it, if the node is not left out, or is live after it and is not its result
  pub live_before_cases : (r : ℕ) → IsTrue (holds (live_before strong n row) r) → ((drops ≡ false) × Contains (reads n) r) ⊎ (IsTrue (holds row r) × (result n ≢ Some r))
  live_before_cases r h = go drops refl h
    where
      go : (b : Bool) → drops ≡ b → IsTrue (holds (if b then row else with_all (reads n) (but_for (result n) row)) r) → ((drops ≡ false) × Contains (reads n) r) ⊎ (IsTrue (holds row r) × (result n ≢ Some r))
      go true e i = inr (i, unread_apart n row r (and_parts strong (is_unread row (pure_result n)) e).1 i)
      go false e i = elim (in_with_all (reads n) (but_for (result n) row) r i) [ inl read ↦ inl (e, in_list (reads n) r read) | inr behind ↦ inr (in_but_for (result n) row r behind) ]

  pub read_live_before : (r : ℕ) → drops ≡ false → Contains (reads n) r → IsTrue (holds (live_before strong n row) r)
  read_live_before r e i = subst (λ b. IsTrue (holds (if b then row else with_all (reads n) (but_for (result n) row)) r)) (sym e) (with_all_first (reads n) (but_for (result n) row) r (list_in (reads n) r i))

  pub behind_live_before : (r : ℕ) → IsTrue (holds row r) → result n ≢ Some r → IsTrue (holds (live_before strong n row) r)
  behind_live_before r h d = go drops
    where
      go : (b : Bool) → IsTrue (holds (if b then row else with_all (reads n) (but_for (result n) row)) r)
      go true = h
      go false = with_all_rest (reads n) (but_for (result n) row) r (but_for_in (result n) row r h d)

-- a result that is read is still read if more is held
unread_less : (x y : List ℕ) (o : Option ℕ) → Below x y → is_unread x o ≡ false → is_unread y o ≡ false
unread_less x y None h e = refl
unread_less x y (Some to) h e = held (holds x to) refl e
  where
    held : (b : Bool) → holds x to ≡ b → not b ≡ false → not (holds y to) ≡ false
    held true f g = ap not (h to f)
    held false f g = absurd cc

drops_less : (strong : Bool) (x y : List ℕ) (o : Option ℕ) → Below x y → (strong && is_unread x o) ≡ false → (strong && is_unread y o) ≡ false
drops_less true x y o h e = unread_less x y o h e
drops_less false x y o h e = refl

-- if more is live after a node, more is live before it
pub live_before_up : (strong : Bool) (n : Node) (x y : List ℕ) → Below x y → Below (live_before strong n x) (live_before strong n y)
live_before_up strong n x y h r i = elim (live_before_cases strong n x r i) [
  | inl (e, read) ↦ read_live_before strong n y r (drops_less strong x y (pure_result n) h e) read
  | inr (behind, d) ↦ behind_live_before strong n y r (h r behind) d
]

-- ---- the step as the code computes it

pub result_apart : (o : Option ℕ) (r : ℕ) → IsTrue (not (is_result o r)) → o ≢ Some r
result_apart None r h e = absurd (let z : None ≡ Some r = e in cc)
result_apart (Some to) r h e =
    let z : Some to ≡ Some r = e in
    let y : to ≡ r = cc in
    absurd (let t = (Decides-eqb to r).1 y in let f = not-true (to == r) h in cc)

apart_result : (o : Option ℕ) (r : ℕ) → o ≢ Some r → IsTrue (not (is_result o r))
apart_result None r d = refl
apart_result (Some to) r d = some_apart to r d

pub live_before_made : (strong : Bool) (n : Node) (row : List ℕ) (r : ℕ) (made : Bool) → (strong && is_unread row (pure_result n)) ≡ false
    → made ≡ (among (reads n) r || (holds row r && not (is_result (result n) r))) → (IsTrue made → IsTrue (holds (live_before strong n row) r)) × (IsTrue (holds (live_before strong n row) r) → IsTrue made)
live_before_made strong n row r made stays is = (
  λ h. elim (or_cases (among (reads n) r) (holds row r && not (is_result (result n) r)) (sym is ∙ h)) [
    | inl read ↦ read_live_before strong n row r stays (in_list (reads n) r read)
    | inr behind ↦ (let b = and_parts (holds row r) (not (is_result (result n) r)) behind in behind_live_before strong n row r b.0 (result_apart (result n) r b.1))
  ],
  λ h. elim (live_before_cases strong n row r h) [
    | inl (e, read) ↦ is ∙ or_left (among (reads n) r) (holds row r && not (is_result (result n) r)) (list_in (reads n) r read)
    | inr (held, d) ↦ is ∙ or_right (among (reads n) r) (holds row r && not (is_result (result n) r)) (and_from (holds row r) (not (is_result (result n) r)) held (apart_result (result n) r d))
  ],
)

pub live_before_stays : (strong : Bool) (n : Node) (row : List ℕ) → (strong && is_unread row (pure_result n)) ≡ true → live_before strong n row ≡ row
live_before_stays strong n row e = ap (λ b. if b then row else with_all (reads n) (but_for (result n) row)) e

-- what a list holds with one more register at the end
pub among-push : (rs : List ℕ) (x r : ℕ) → among (rs ++ x ∷ []) r ≡ (x == r || among rs r)
among-push [] x r = refl
among-push (s ∷ rs) x r = ap (λ b. (s == r) || b) (among-push rs x r) ∙ swap (s == r) (x == r) (among rs r)
  where
    swap : (a b c : Bool) → (a || (b || c)) ≡ (b || (a || c))
    swap true true c = refl
    swap true false c = refl
    swap false true c = refl
    swap false false c = refl
