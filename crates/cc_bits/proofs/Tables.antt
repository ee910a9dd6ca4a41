-- What a table holds after its words have changed, bit by bit.
use Rattle.std.proofs.Common.{◌≡◌, ◌≢◌, ℕ, ◌+◌, ◌*◌, ◌/◌, ◌%◌, ◌^◌, get_or, w64, ◌<◌, ◌≤◌, List, length, ◌∙◌, sym, ap, arith, refl, inl, inr, Bool, true, false, ◌==◌, ◌&&◌, ◌||◌, not, nat_lt, if◌then◌else◌, IsTrue, IsFalse}
use Rattle.std.proofs.lemmas.Bool.{cases_eq, cases_lt, eq-eqb, ne_eqb, eqb-true, and_from}
use Rattle.std.proofs.lemmas.Bool.Decides.{nat_tests}
use Rattle.std.specs.Int.{bit_at, trailing_zeros}
use Rattle.std.proofs.lemmas.Nat.Bits.{bit_at-trailing_zeros}
use Rattle.cc_bits.specs.Rows.{holds, key, moved}
use Rattle.cc_bits.specs.internal.Holding.{bit, holds-nothing, holds-past, within_row}
use Rattle.cc_bits.proofs.Keys.{next_row, same_key, of_key}

-- ---- tests

pub below : (j n : ℕ) → j < n → nat_lt j n ≡ true
below j n h = grind (arith, nat_tests)

pub not_below : (j n : ℕ) → n ≤ j → nat_lt j n ≡ false
not_below j n h = grind (arith, nat_tests)

pub is_below : (j n : ℕ) → nat_lt j n ≡ true → j < n
is_below j n h = grind (arith, nat_tests)

pub or_false : (b : Bool) → (b || false) ≡ b
or_false true = refl
or_false false = refl

pub and_false : (b : Bool) → (b && false) ≡ false
and_false true = refl
and_false false = refl

pub and_true : (b : Bool) → (b && true) ≡ b
and_true true = refl
and_true false = refl

-- ---- one bit

-- two bits of a table are the same exactly if their numbers are the same
same_bit : (w r c i j : ℕ) → c < 64 * w → j < 64 * w → (key w r c == key w i j) ≡ (r == i && c == j)
same_bit w r c i j h k = elim (cases_eq r i) [
  | inr other ↦ ne_eqb (key w r c) (key w i j) (λ e. other (same_key w r c i j h k e).0) ∙ ap (λ b. b && c == j) (sym (ne_eqb r i other))
  | inl row ↦ elim (cases_eq c j) [
    | inr other ↦ ne_eqb (key w r c) (key w i j) (λ e. other (same_key w r c i j h k e).1) ∙ (sym (and_false (r == i)) ∙ ap (λ b. r == i && b) (sym (ne_eqb c j other)))
    | inl column ↦ eq-eqb (key w r c) (key w i j) (let m = ap (λ x. w * x) row in omega (arith, m, column)) ∙ (ap (λ b. b && true) (sym (eq-eqb r i row)) ∙ ap (λ b. r == i && b) (sym (eq-eqb c j column)))
  ]
]

-- a bit past the width is not bit c of row r
far_bit : (w r c i j : ℕ) → c < 64 * w → 64 * w ≤ j → (r == i && c == j) ≡ false
far_bit w r c i j h k = ap (λ b. r == i && b) (ne_eqb c j (λ e. absurd (omega arith))) ∙ and_false (r == i)

pub put_bit : (w r c : ℕ) (old new : List ℕ) → c < 64 * w → ((k : ℕ) → holds new k ≡ (key w r c == k || holds old k))
    → (i j : ℕ) → (nat_lt j (64 * w) && holds new (key w i j)) ≡ ((r == i && c == j) || (nat_lt j (64 * w) && holds old (key w i j)))
put_bit w r c old new h puts i j = elim (cases_lt j (64 * w)) [
  | inl lt ↦
      ap (λ b. b && holds new (key w i j)) (below j (64 * w) lt)
      ∙ (puts (key w i j) ∙ (ap (λ b. b || holds old (key w i j)) (same_bit w r c i j h lt)
      ∙ ap (λ b. (r == i && c == j) || (b && holds old (key w i j))) (sym (below j (64 * w) lt))))
  | inr ge ↦
      ap (λ b. b && holds new (key w i j)) (not_below j (64 * w) ge)
      ∙ (ap (λ b. b || false) (sym (far_bit w r c i j h ge)) ∙ ap (λ b. (r == i && c == j) || (b && holds old (key w i j))) (sym (not_below j (64 * w) ge)))
]

pub removed_bit : (w r c : ℕ) (old new : List ℕ) → c < 64 * w → ((k : ℕ) → holds new k ≡ (holds old k && not (key w r c == k)))
    → (i j : ℕ) → (nat_lt j (64 * w) && holds new (key w i j)) ≡ ((nat_lt j (64 * w) && holds old (key w i j)) && not (r == i && c == j))
removed_bit w r c old new h takes i j = elim (cases_lt j (64 * w)) [
  | inl lt ↦
      ap (λ b. b && holds new (key w i j)) (below j (64 * w) lt)
      ∙ (takes (key w i j) ∙ (ap (λ b. holds old (key w i j) && not b) (same_bit w r c i j h lt)
      ∙ ap (λ b. (b && holds old (key w i j)) && not (r == i && c == j)) (sym (below j (64 * w) lt))))
  | inr ge ↦
      ap (λ b. b && holds new (key w i j)) (not_below j (64 * w) ge)
      ∙ ap (λ b. (b && holds old (key w i j)) && not (r == i && c == j)) (sym (not_below j (64 * w) ge))
]

-- a bit past the width is not set, and need not be removed
pub removed_none : (w r c : ℕ) (words : List ℕ) → 64 * w ≤ c
    → (i j : ℕ) → (nat_lt j (64 * w) && holds words (key w i j)) ≡ ((nat_lt j (64 * w) && holds words (key w i j)) && not (r == i && c == j))
removed_none w r c words h i j = elim (cases_lt j (64 * w)) [
  | inl lt ↦
      sym (and_true (nat_lt j (64 * w) && holds words (key w i j)))
      ∙ ap (λ b. (nat_lt j (64 * w) && holds words (key w i j)) && not b) (sym (ap (λ b. r == i && b) (ne_eqb c j (λ e. absurd (omega arith))) ∙ and_false (r == i)))
  | inr ge ↦ ap (λ b. b && holds words (key w i j)) (not_below j (64 * w) ge) ∙ ap (λ b. (b && holds words (key w i j)) && not (r == i && c == j)) (sym (not_below j (64 * w) ge))
]

pub past_columns : (w : ℕ) (words : List ℕ) (r c : ℕ) → 64 * w ≤ c → (nat_lt c (64 * w) && holds words (key w r c)) ≡ false
past_columns w words r c h = ap (λ b. b && holds words (key w r c)) (not_below c (64 * w) h)

-- a bit of row n moves to another column if its number is replaced with the number of the new bit
pub moved_bit : (w n from to : ℕ) (old new : List ℕ) → from < 64 * w → to < 64 * w → ((k : ℕ) → holds new k ≡ moved (key w n from) (key w n to) (holds old) k)
    → (i j : ℕ) → bit w new i j ≡ (if n == i then moved from to (bit w old i) j else bit w old i j)
moved_bit w n from to old new f t moves i j = elim (cases_lt j (64 * w)) [
  | inr ge ↦
      past_columns w new i j ge ∙ sym (none (n == i) ge)
  | inl lt ↦
      ap (λ b. b && holds new (key w i j)) (below j (64 * w) lt)
      ∙ (moves (key w i j)
      ∙ (ap (λ b. if b then holds old (key w n to) || holds old (key w n from) else holds old (key w i j) && not (key w n from == key w i j)) (same_bit w n to i j t lt)
      ∙ (ap (λ b. if n == i && to == j then holds old (key w n to) || holds old (key w n from) else holds old (key w i j) && not b) (same_bit w n from i j f lt)
      ∙ here lt (n == i) refl)))
]
  where
    none : (b : Bool) → 64 * w ≤ j → (if b then moved from to (bit w old i) j else bit w old i j) ≡ false
    none true ge =
        ap (λ b. if b then bit w old i to || bit w old i from else bit w old i j && not (from == j)) (ne_eqb to j (λ e. absurd (omega (arith, e, ge, t))))
        ∙ ap (λ b. b && not (from == j)) (past_columns w old i j ge)
    none false ge = past_columns w old i j ge

    inside : (x : ℕ) → x < 64 * w → holds old (key w i x) ≡ bit w old i x
    inside x lt = ap (λ b. b && holds old (key w i x)) (sym (below x (64 * w) lt))

    here : j < 64 * w → (b : Bool) → (n == i) ≡ b → (if b && to == j then holds old (key w n to) || holds old (key w n from) else holds old (key w i j) && not (b && from == j))
        ≡ (if b then moved from to (bit w old i) j else bit w old i j)
    here lt true e =
        ap (λ x. if to == j then holds old (key w x to) || holds old (key w x from) else holds old (key w i j) && not (from == j)) (eqb-true n i e)
        ∙ (ap (λ x. if to == j then x || holds old (key w i from) else holds old (key w i j) && not (from == j)) (inside to t)
        ∙ (ap (λ x. if to == j then bit w old i to || x else holds old (key w i j) && not (from == j)) (inside from f)
        ∙ ap (λ x. if to == j then bit w old i to || bit w old i from else x && not (from == j)) (inside j lt)))
    here lt false e = and_true (holds old (key w i j)) ∙ inside j lt

-- ---- all bits

pub past_rows : (w n : ℕ) (words : List ℕ) → length words ≤ w * n → (r c : ℕ) → n ≤ r → (nat_lt c (64 * w) && holds words (key w r c)) ≡ false
past_rows w n words h r c le = ap (λ b. nat_lt c (64 * w) && b) (holds-past words (key w r c) (omega (arith, more r le))) ∙ and_false (nat_lt c (64 * w))
  where
    more : (r : ℕ) → n ≤ r → w * n ≤ w * r
    more r le = elim (cases_eq n r) [ inl same ↦ (let m = ap (λ x. w * x) same in omega (arith, m)) | inr other ↦ (let m = next_row w n r (omega arith) in omega (arith, m)) ]

pub joined_bits : (w : ℕ) (new a b : List ℕ) → ((k : ℕ) → holds new k ≡ (holds a k || holds b k))
    → (r c : ℕ) → (nat_lt c (64 * w) && holds new (key w r c)) ≡ ((nat_lt c (64 * w) && holds a (key w r c)) || (nat_lt c (64 * w) && holds b (key w r c)))
joined_bits w new a b h r c = ap (λ x. nat_lt c (64 * w) && x) (h (key w r c)) ∙ spread (nat_lt c (64 * w)) (holds a (key w r c)) (holds b (key w r c))
  where
    spread : (p x y : Bool) → (p && (x || y)) ≡ ((p && x) || (p && y))
    spread true x y = refl
    spread false x y = refl

-- if one row holds a number that the other does not, one table has a bit that the other lacks
pub risen_bit : (w n : ℕ) (mine theirs : List ℕ) → length theirs ≤ w * n → (k : ℕ) → IsTrue (holds theirs k) → IsFalse (holds mine k)
    → (r c : ℕ) × IsTrue (nat_lt c (64 * w) && holds theirs (key w r c)) × IsFalse (nat_lt c (64 * w) && holds mine (key w r c))
risen_bit w n mine theirs few k there out =
    let inside = within_row theirs k there in
    let b = of_key w n k (omega (arith, inside, few)) in
    let r = b.0 in
    let c = b.1 in
    let lt : c < 64 * w = b.3 in
    let is : key w r c ≡ k = b.4 in
    (r, c, and_from (nat_lt c (64 * w)) (holds theirs (key w r c)) (below c (64 * w) lt) (ap (holds theirs) is ∙ there), ap (λ x. nat_lt c (64 * w) && x) (ap (holds mine) is ∙ out) ∙ and_false (nat_lt c (64 * w)))

-- a row whose words are all 0 has no bit set; a word that is not 0 has one set
pub words_empty : (w : ℕ) (words : List ℕ) (r : ℕ) → ((i : ℕ) → i < w → get_or words (w * r + i) 0 ≡ 0) → (c : ℕ) → (nat_lt c (64 * w) && holds words (key w r c)) ≡ false
words_empty w words r zero c = elim (cases_lt c (64 * w)) [
  | inr ge ↦ past_columns w words r c ge
  | inl lt ↦
      let q : key w r c / 64 ≡ w * r + c / 64 = omega arith in
      let none : get_or words (key w r c / 64) 0 ≡ 0 = ap (λ i. get_or words i 0) q ∙ zero (c / 64) (omega arith) in
      ap (λ b. nat_lt c (64 * w) && b) (ap (λ v. bit_at v (key w r c % 64) == 1) none ∙ holds-nothing (key w r c)) ∙ and_false (nat_lt c (64 * w))
]

pub word_held : (w : ℕ) (words : List ℕ) (r k word : ℕ) → k < w → word ≡ get_or words (w * r + k) 0 → word < 2 ^ 64 → word ≢ 0 → (c : ℕ) × IsTrue (nat_lt c (64 * w) && holds words (key w r c))
word_held w words r k word lt is fits some =
    let i = trailing_zeros w64 word in
    let low = bit_at-trailing_zeros w64 word (omega (arith, some)) fits in
    let c = 64 * k + i in
    let q : key w r c / 64 ≡ w * r + k = omega (arith, low.0) in
    let m : key w r c % 64 ≡ i = omega (arith, low.0) in
    let bit : bit_at (get_or words (key w r c / 64) 0) (key w r c % 64) ≡ 1 = ap (λ x. bit_at (get_or words x 0) (key w r c % 64)) q ∙ (ap (λ x. bit_at (get_or words (w * r + k) 0) x) m ∙ (ap (λ v. bit_at v i) (sym is) ∙ low.1)) in
    (c, and_from (nat_lt c (64 * w)) (holds words (key w r c)) (below c (64 * w) (omega (arith, lt, low.0))) (eq-eqb (bit_at (get_or words (key w r c / 64) 0) (key w r c % 64)) 1 bit))
