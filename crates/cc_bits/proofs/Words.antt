-- Moving the bits of one word of a row to another row: each word belongs to one row, and each bit of the result is as the table
-- says.
use Rattle.std.proofs.Common.{◌≡◌, ℕ, ◌+◌, ◌*◌, ◌/◌, ◌%◌, get_or, ◌<◌, List, ◌∙◌, sym, ap, arith, refl, inl, inr, Bool, true, false, ◌==◌, ◌&&◌, ◌||◌, not, nat_lt, if◌then◌else◌}
use Rattle.std.proofs.lemmas.Bool.{cases_eq, cases_lt, eq-eqb, ne_eqb, eqb-true}
use Rattle.std.specs.Int.{bit_at}
use Rattle.std.proofs.lemmas.Nat.Bits.{bit_at-zero}
use Rattle.cc_bits.specs.Rows.{holds, key, row_moved}
use Rattle.cc_bits.proofs.Keys.{same_key}
use Rattle.cc_bits.proofs.Tables.{below, past_columns, or_false, and_false, and_true}

-- two words are the same exactly if their rows are, and their places within the rows
same_word : (w from k r c : ℕ) → k < w → c < 64 * w → (w * from + k == key w r c / 64) ≡ (from == r && k == c / 64)
same_word w from k r c h i = elim (cases_eq from r) [
  | inr other ↦ ne_eqb (w * from + k) (key w r c / 64) (λ e. other (parts e).0) ∙ ap (λ b. b && k == c / 64) (sym (ne_eqb from r other))
  | inl row ↦ elim (cases_eq k (c / 64)) [
    | inr other ↦ ne_eqb (w * from + k) (key w r c / 64) (λ e. other (parts e).1) ∙ (sym (and_false (from == r)) ∙ ap (λ b. from == r && b) (sym (ne_eqb k (c / 64) other)))
    | inl place ↦ eq-eqb (w * from + k) (key w r c / 64) (let m = ap (λ x. w * x) row in omega (arith, m, place)) ∙ (ap (λ b. b && true) (sym (eq-eqb from r row)) ∙ ap (λ b. from == r && b) (sym (eq-eqb k (c / 64) place)))
  ]
]
  where
    parts : w * from + k ≡ key w r c / 64 → (from ≡ r) × (k ≡ c / 64)
    parts e =
        let s = same_key w from (64 * k) r (64 * (c / 64)) (omega (arith, h)) (omega (arith, i)) (omega (arith, e)) in
        let q : 64 * k ≡ 64 * (c / 64) = s.1 in
        (s.0, omega (arith, q))

or_same : (b : Bool) → (b || b) ≡ b
or_same true = refl
or_same false = refl

-- a bit of this word is removed at its old place and added at the new one
one_bit : (own there held from to : Bool) → (from ≡ true → held ≡ own) → (to ≡ true → there ≡ own)
    → ((own && not (from && true)) || ((to && true) && held)) ≡ (if to then there || held else own && not from)
one_bit own there held true true h i = ap (λ b. b || held) (and_false own) ∙ (h refl ∙ sym (ap (λ b. b || held) (i refl) ∙ (ap (λ b. own || b) (h refl) ∙ or_same own)))
one_bit own there held false true h i = ap (λ b. b || held) (and_true own ∙ sym (i refl))
one_bit own there held true false h i = or_false (own && false)
one_bit own there held false false h i = or_false (own && true)

-- a bit of another word stays as it is
other_bit : (own held from to : Bool) → ((own && not (from && false)) || ((to && false) && held)) ≡ own
other_bit own held from to =
    ap (λ b. (own && not b) || ((to && false) && held)) (and_false from)
    ∙ (ap (λ b. (own && true) || (b && held)) (and_false to) ∙ (or_false (own && true) ∙ and_true own))

module _ (w from to k word : ℕ) (old mid new : List ℕ) (h : k < w) (is : word ≡ get_or old (w * from + k) 0)
    (takes : (i : ℕ) → holds mid i ≡ (holds old i && not (w * from + k == i / 64)))
    (puts : (i : ℕ) → holds new i ≡ (holds mid i || (w * to + k == i / 64 && bit_at word (i % 64) == 1))) where
  abbrev bit : ℕ → ℕ → Bool
  bit r c = nat_lt c (64 * w) && holds old (key w r c)

  abbrev goal : (r c : ℕ) → (here : Bool) → Bool
  goal r c here = if here then row_moved from to bit r c else bit r c

  module _ (r c : ℕ) (lt : c < 64 * w) where
    inside : (x : ℕ) → bit x c ≡ holds old (key w x c)
    inside x = ap (λ b. b && holds old (key w x c)) (below c (64 * w) lt)

    -- the word's bit for column c is the table's bit in row `from`
    read : k ≡ c / 64 → (bit_at word (key w r c % 64) == 1) ≡ bit from c
    read e =
        let q : w * from + k ≡ key w from c / 64 = omega (arith, e) in
        let m : key w r c % 64 ≡ key w from c % 64 = omega arith in
        ap (λ v. bit_at v (key w r c % 64) == 1) (is ∙ ap (λ i. get_or old i 0) q)
        ∙ (ap (λ i. bit_at (get_or old (key w from c / 64) 0) i == 1) m ∙ sym (inside from))

    made : (nat_lt c (64 * w) && holds new (key w r c)) ≡ ((bit r c && not (from == r && k == c / 64)) || ((to == r && k == c / 64) && bit_at word (key w r c % 64) == 1))
    made =
        ap (λ b. b && holds new (key w r c)) (below c (64 * w) lt)
        ∙ (puts (key w r c)
        ∙ (ap (λ b. holds mid (key w r c) || (b && bit_at word (key w r c % 64) == 1)) (same_word w to k r c h lt)
        ∙ ap (λ b. b || ((to == r && k == c / 64) && bit_at word (key w r c % 64) == 1))
        (takes (key w r c) ∙ (ap (λ b. holds old (key w r c) && not b) (same_word w from k r c h lt) ∙ ap (λ b. b && not (from == r && k == c / 64)) (sym (inside r))))))

    at_row : (x : ℕ) → (x == r) ≡ true → bit x c ≡ bit r c
    at_row x e = ap (λ y. bit y c) (eqb-true x r e)

    settled : (here : Bool) → (k == c / 64) ≡ here → ((bit r c && not (from == r && here)) || ((to == r && here) && bit_at word (key w r c % 64) == 1)) ≡ goal r c here
    settled true e =
        ap (λ b. (bit r c && not (from == r && true)) || ((to == r && true) && b)) (read (eqb-true k (c / 64) e))
        ∙ one_bit (bit r c) (bit to c) (bit from c) (from == r) (to == r) (at_row from) (at_row to)
    settled false e = other_bit (bit r c) (bit_at word (key w r c % 64) == 1) (from == r) (to == r)

  pub word_moved : (r c : ℕ) → (nat_lt c (64 * w) && holds new (key w r c)) ≡ (if k == c / 64 then row_moved from to (λ i j. nat_lt j (64 * w) && holds old (key w i j)) r c else (nat_lt c (64 * w) && holds old (key w r c)))
  word_moved r c = elim (cases_lt c (64 * w)) [
    | inr ge ↦ past_columns w new r c ge ∙ (sym (past_columns w old r c ge) ∙ ap (goal r c) (sym (ne_eqb k (c / 64) (λ e. absurd (omega (arith, e, h, ge))))))
    | inl lt ↦ made r c lt ∙ settled r c lt (k == c / 64) refl
  ]

-- a word without set bits need not be moved
pub word_stays : (w from to k : ℕ) (words : List ℕ) → k < w → 0 ≡ get_or words (w * from + k) 0
    → (r c : ℕ) → (nat_lt c (64 * w) && holds words (key w r c)) ≡ (if k == c / 64 then row_moved from to (λ i j. nat_lt j (64 * w) && holds words (key w i j)) r c else (nat_lt c (64 * w) && holds words (key w r c)))
word_stays w from to k words h none = word_moved w from to k 0 words words words h none takes puts
  where
    takes : (i : ℕ) → holds words i ≡ (holds words i && not (w * from + k == i / 64))
    takes i = elim (cases_eq (w * from + k) (i / 64)) [
      | inl same ↦
          (let out : holds words i ≡ false = ap (λ q. bit_at (get_or words q 0) (i % 64) == 1) (sym same) ∙ (ap (λ v. bit_at v (i % 64) == 1) (sym none) ∙ ap (λ n. n == 1) (bit_at-zero (i % 64))) in
          out ∙ sym (ap (λ b. b && not (w * from + k == i / 64)) out))
      | inr other ↦ sym (and_true (holds words i)) ∙ ap (λ b. holds words i && not b) (sym (ne_eqb (w * from + k) (i / 64) other))
    ]

    puts : (i : ℕ) → holds words i ≡ (holds words i || (w * to + k == i / 64 && bit_at 0 (i % 64) == 1))
    puts i =
        sym (or_false (holds words i))
        ∙ ap (λ b. holds words i || b) (sym (ap (λ n. w * to + k == i / 64 && n == 1) (bit_at-zero (i % 64)) ∙ and_false (w * to + k == i / 64)))
