-- What a row holds after one of its words has changed, and when the numbers of one row lie within those of another. Both are
-- shown for each number, by the word that has its bit.
use Rattle.std.proofs.Common.{◌≡◌, ◌≢◌, ℕ, ◌+◌, ◌-◌, ◌*◌, ◌/◌, ◌%◌, ◌^◌, ◌<◌, ◌≤◌, List, length, get_or, set, refl, sym, ap, ◌∙◌, subst, Bool, true, false, ◌==◌, ◌&&◌, ◌||◌, not, if◌then◌else◌, IsTrue, IsFalse, arith, inl, inr, w64, min}
use Rattle.std.specs.Int.{bit_at, bit_not, trailing_zeros}
use Rattle.std.specs.Int.RustNames.{bit_or}
use Rattle.std.specs.Int.Bits.{bit_and}
use Rattle.std.proofs.lemmas.List.{get_or-set_other, get_or-set_same, length-set}
use Rattle.std.proofs.lemmas.Nat.{and_le_l}
use Rattle.std.proofs.lemmas.Nat.Bits.{bit_at-zero, bit_at_and, bit_at_not, bit_at-lt, bit_at_set_same, bit_at_set_other, bit_at_clear_same, bit_at_clear_other, bit_at-trailing_zeros}
use Rattle.std.proofs.lemmas.Bool.{cases_eq, cases_lt, eq-eqb, ne_eqb, eqb-true}
use Rattle.cc_bits.specs.Rows.{holds, moved}
use Rattle.cc_bits.specs.internal.Holding.{holds-past, bits_or, within_row}

-- ---- one word changed

holds_here : (row : List ℕ) (q w r : ℕ) → q < length row → r / 64 ≡ q → holds (set row q w) r ≡ (bit_at w (r % 64) == 1)
holds_here row q w r lt e = ap (λ x. bit_at x (r % 64) == 1) (ap (λ i. get_or (set row q w) i 0) e ∙ get_or-set_same row q w 0 lt)

holds_elsewhere : (row : List ℕ) (q w r : ℕ) → r / 64 ≢ q → holds (set row q w) r ≡ holds row r
holds_elsewhere row q w r d = ap (λ x. bit_at x (r % 64) == 1) (get_or-set_other row q (r / 64) w 0 d)

-- after a number's bit is set, the row also holds that number
pub inserted : (row : List ℕ) (s w r : ℕ) → w ≡ get_or row (s / 64) 0 → s / 64 < length row → holds (set row (s / 64) (bit_or w (1 * 2 ^ (s % 64) % 2 ^ 64))) r ≡ (s == r || holds row r)
inserted row s w r read lt = elim (cases_eq (r / 64) (s / 64)) [
  | inr far ↦ holds_elsewhere row (s / 64) changed r far ∙ ap (λ b. b || holds row r) (sym (ne_eqb s r (λ e. far (omega arith))))
  | inl near ↦ holds_here row (s / 64) changed r lt near ∙ elim (cases_eq (r % 64) (s % 64)) [
    | inl same ↦ ap (λ i. bit_at changed i == 1) same ∙ (ap (λ n. n == 1) (bit_at_set_same w64 w (s % 64) (omega arith)) ∙ ap (λ b. b || holds row r) (sym (eq-eqb s r (omega arith))))
    | inr other ↦
        ap (λ n. n == 1) (bit_at_set_other w64 w (s % 64) (omega arith) (r % 64) other ∙ ap (λ v. bit_at v (r % 64)) (read ∙ ap (λ i. get_or row i 0) (sym near)))
        ∙ ap (λ b. b || holds row r) (sym (ne_eqb s r (λ e. other (omega arith))))
  ]
]
  where
    changed : ℕ
    changed = bit_or w (1 * 2 ^ (s % 64) % 2 ^ 64)

and_true : (b : Bool) → b ≡ (b && not false)
and_true true = refl
and_true false = refl

and_false : (b : Bool) → false ≡ (b && not true)
and_false true = refl
and_false false = refl

kept : (row : List ℕ) (s r : ℕ) → s ≢ r → holds row r ≡ (holds row r && not (s == r))
kept row s r d = and_true (holds row r) ∙ ap (λ b. holds row r && not b) (sym (ne_eqb s r d))

gone : (row : List ℕ) (s r : ℕ) → s ≡ r → false ≡ (holds row r && not (s == r))
gone row s r e = and_false (holds row r) ∙ ap (λ b. holds row r && not b) (sym (eq-eqb s r e))

-- after a number's bit is cleared, the row no longer holds that number
pub removed : (row : List ℕ) (s w r : ℕ) → w ≡ get_or row (s / 64) 0 → s / 64 < length row → holds (set row (s / 64) (bit_and w (bit_not w64 (1 * 2 ^ (s % 64) % 2 ^ 64)))) r ≡ (holds row r && not (s == r))
removed row s w r read lt = elim (cases_eq (r / 64) (s / 64)) [
  | inr far ↦ holds_elsewhere row (s / 64) changed r far ∙ kept row s r (λ e. far (omega arith))
  | inl near ↦ holds_here row (s / 64) changed r lt near ∙ elim (cases_eq (r % 64) (s % 64)) [
    | inl same ↦ ap (λ i. bit_at changed i == 1) same ∙ (ap (λ n. n == 1) (bit_at_clear_same w64 w (s % 64) (omega arith)) ∙ gone row s r (omega arith))
    | inr other ↦
        ap (λ n. n == 1) (bit_at_clear_other w64 w (s % 64) (omega arith) (r % 64) (omega arith) other ∙ ap (λ v. bit_at v (r % 64)) (read ∙ ap (λ i. get_or row i 0) (sym near)))
        ∙ kept row s r (λ e. other (omega arith))
  ]
]
  where
    changed : ℕ
    changed = bit_and w (bit_not w64 (1 * 2 ^ (s % 64) % 2 ^ 64))

-- after bit i of a word is cleared, the row no longer holds the number of that bit
pub removed_at : (row : List ℕ) (at i w r : ℕ) → i < 64 → w ≡ get_or row at 0 → at < length row → holds (set row at (bit_and w (bit_not w64 (1 * 2 ^ i % 2 ^ 64)))) r ≡ (holds row r && not (64 * at + i == r))
removed_at row at i w r small read lt =
    subst (λ q. holds (set row q (bit_and w (bit_not w64 (1 * 2 ^ i % 2 ^ 64)))) r ≡ (holds row r && not (64 * at + i == r))) place
    (subst (λ k. holds (set row ((64 * at + i) / 64) (bit_and w (bit_not w64 (1 * 2 ^ k % 2 ^ 64)))) r ≡ (holds row r && not (64 * at + i == r))) of
    (removed row (64 * at + i) w r (read ∙ ap (λ q. get_or row q 0) (sym place)) (omega (arith, place, lt))))
  where
    place : (64 * at + i) / 64 ≡ at
    place = omega (arith, small)

    of : (64 * at + i) % 64 ≡ i
    of = omega (arith, small)

-- a number past the row's end need not be removed
pub removed_past : (row : List ℕ) (s r : ℕ) → length row ≤ s / 64 → holds row r ≡ (holds row r && not (s == r))
removed_past row s r past = elim (cases_eq s r) [
  | inl same ↦ holds-past row r (subst (λ x. length row ≤ x / 64) same past) ∙ gone row s r same
  | inr other ↦ kept row s r other
]

-- ---- one number replaced by another

-- if the number is in the set, it is removed and the other one is added
pub moved_on : (from to : ℕ) (old mid new : ℕ → Bool) → old from ≡ true → ((k : ℕ) → mid k ≡ (old k && not (from == k))) → ((k : ℕ) → new k ≡ (to == k || mid k))
    → (k : ℕ) → new k ≡ moved from to old k
moved_on from to old mid new there takes puts k = puts k ∙ (ap (λ b. to == k || b) (takes k) ∙ here (to == k))
  where
    or_true : (b : Bool) → true ≡ (b || true)
    or_true true = refl
    or_true false = refl

    here : (b : Bool) → (b || (old k && not (from == k))) ≡ (if b then old to || old from else old k && not (from == k))
    here true = or_true (old to) ∙ ap (λ x. old to || x) (sym there)
    here false = refl

-- if the number is not in the set, nothing changes
pub moved_none : (from to : ℕ) (old : ℕ → Bool) → old from ≡ false → (k : ℕ) → old k ≡ moved from to old k
moved_none from to old none k = here (to == k) refl (from == k) refl
  where
    or_none : (b : Bool) → b ≡ (b || false)
    or_none true = refl
    or_none false = refl

    here : (b : Bool) → (to == k) ≡ b → (d : Bool) → (from == k) ≡ d → old k ≡ (if b then old to || old from else old k && not d)
    here true e d f = ap old (sym (eqb-true to k e)) ∙ (or_none (old to) ∙ ap (λ x. old to || x) (sym none))
    here false e true f = ap old (sym (eqb-true from k f)) ∙ (none ∙ and_false (old k))
    here false e false f = and_true (old k)

-- ---- words within words

-- the first n words of `some` hold nothing that `all` does not hold
abbrev pub WithinFirst : (words : ℕ) → (some all : List ℕ) → Type 0
WithinFirst n some all = (r : ℕ) → r / 64 < n → IsTrue (holds some r) → IsTrue (holds all r)

pub none_within : (some all : List ℕ) → WithinFirst 0 some all
none_within some all r h = absurd (omega arith)

-- the bits of a word, without those of another word
but_for_bits : (word other i : ℕ) → other < 2 ^ 64 → i < 64 → bit_at (bit_and word (bit_not w64 other)) i ≡ min (bit_at word i) (1 - bit_at other i)
but_for_bits word other i fits lt = bit_at_and word (bit_not w64 other) i ∙ ap (min (bit_at word i)) (bit_at_not w64 other i fits lt)

pub one_within : (some all : List ℕ) (n word other : ℕ) → word ≡ get_or some n 0 → other ≡ get_or all n 0 → other < 2 ^ 64 → bit_and word (bit_not w64 other) ≡ 0 → WithinFirst n some all → WithinFirst (n + 1) some all
one_within some all n word other a b fits none before r lt held = elim (cases_eq (r / 64) n) [
  | inr earlier ↦ before r (omega arith) held
  | inl here ↦
      let mine : bit_at word (r % 64) ≡ 1 = ap (λ v. bit_at v (r % 64)) (a ∙ ap (λ i. get_or some i 0) (sym here)) ∙ eqb-true (bit_at (get_or some (r / 64) 0) (r % 64)) 1 held in
      let left : min (bit_at word (r % 64)) (1 - bit_at other (r % 64)) ≡ 0 = sym (but_for_bits word other (r % 64) fits (omega arith)) ∙ (ap (λ v. bit_at v (r % 64)) none ∙ bit_at-zero (r % 64)) in
      let small = bit_at-lt other (r % 64) in
      let theirs : bit_at other (r % 64) ≡ 1 = omega (arith, mine, left, small) in
      eq-eqb (bit_at (get_or all (r / 64) 0) (r % 64)) 1 (ap (λ v. bit_at v (r % 64)) (ap (λ i. get_or all i 0) here ∙ sym b) ∙ theirs)
]

pub all_within : (some all : List ℕ) (n : ℕ) → length some ≤ n → WithinFirst n some all → (r : ℕ) → IsTrue (holds some r) → IsTrue (holds all r)
all_within some all n past h r held = h r (let w = within_row some r held in omega (arith, w)) held

-- if a word has a bit that the other word lacks, there is a number in one row that is not in the other
pub one_outside : (some all : List ℕ) (n word other : ℕ) → word ≡ get_or some n 0 → other ≡ get_or all n 0 → word < 2 ^ 64 → other < 2 ^ 64 → n < length some → bit_and word (bit_not w64 other) ≢ 0 → (r : ℕ) × (r < 64 * length some) × IsTrue (holds some r) × IsFalse (holds all r)
one_outside some all n word other a b fits fits_too lt d =
    let left = bit_and word (bit_not w64 other) in
    let i = trailing_zeros w64 left in
    let low = bit_at-trailing_zeros w64 left (omega arith) (let l = and_le_l word (bit_not w64 other) in omega (arith, l, fits)) in
    let bit : min (bit_at word i) (1 - bit_at other i) ≡ 1 = sym (but_for_bits word other i fits_too low.0) ∙ low.1 in
    let mine : bit_at word i ≡ 1 = (let s = bit_at-lt word i in omega (arith, bit, s)) in
    let theirs : bit_at other i ≡ 0 = (let s = bit_at-lt other i in omega (arith, bit, s)) in
    let r = 64 * n + i in
    let word_of : r / 64 ≡ n = omega (arith, low.0) in
    let bit_of : r % 64 ≡ i = omega (arith, low.0) in (
      r,
      omega (arith, low.0),
      eq-eqb (bit_at (get_or some (r / 64) 0) (r % 64)) 1 (ap (λ k. bit_at (get_or some k 0) (r % 64)) word_of ∙ (ap (λ v. bit_at v (r % 64)) (sym a) ∙ (ap (bit_at word) bit_of ∙ mine))),
      ne_eqb (bit_at (get_or all (r / 64) 0) (r % 64)) 1 (λ e. absurd (let z : bit_at other i ≡ 1 = sym (ap (λ k. bit_at (get_or all k 0) (r % 64)) word_of ∙ (ap (λ v. bit_at v (r % 64)) (sym b) ∙ ap (bit_at other) bit_of)) ∙ e in omega (arith, z, theirs))),
    )

-- ---- words joined with words

-- the first n words of `from` have been joined in
pub record PutFirst (n : ℕ) (start from now : List ℕ) : Type 0 where
  pub long : length now ≡ length start
  pub put : (r : ℕ) → r / 64 < n → holds now r ≡ (holds start r || holds from r)
  pub rest : (r : ℕ) → n ≤ r / 64 → holds now r ≡ holds start r

pub none_put : (start from : List ℕ) → PutFirst 0 start from start
none_put start from = record { long = refl; put = λ r h. absurd (omega arith); rest = λ r h. refl }

pub one_put : (start from now : List ℕ) (n word other : ℕ) → word ≡ get_or now n 0 → other ≡ get_or from n 0 → n < length now → PutFirst n start from now → PutFirst (n + 1) start from (set now n (bit_or word other))
one_put start from now n word other a b lt h = record {
  long = length-set now n (bit_or word other) ∙ h.long;
  put = λ r le. elim (cases_eq (r / 64) n) [
    | inr earlier ↦ holds_elsewhere now n (bit_or word other) r earlier ∙ h.put r (omega arith)
    | inl here ↦
        holds_here now n (bit_or word other) r lt here
        ∙ (bits_or word other (r % 64)
        ∙ (ap (λ v. bit_at v (r % 64) == 1 || bit_at other (r % 64) == 1) (a ∙ ap (λ i. get_or now i 0) (sym here))
        ∙ (ap (λ v. holds now r || bit_at v (r % 64) == 1) (b ∙ ap (λ i. get_or from i 0) (sym here))
        ∙ ap (λ x. x || holds from r) (h.rest r (omega arith)))))
  ];
  rest = λ r le. holds_elsewhere now n (bit_or word other) r (λ e. absurd (omega arith)) ∙ h.rest r (omega arith);
}

or_false : (b : Bool) → b ≡ (b || false)
or_false true = refl
or_false false = refl

pub all_put : (start from now : List ℕ) (n : ℕ) → length from ≤ n → PutFirst n start from now → (r : ℕ) → holds now r ≡ (holds start r || holds from r)
all_put start from now n past h r = elim (cases_lt (r / 64) n) [
  | inl lt ↦ h.put r lt
  | inr ge ↦ h.rest r ge ∙ (or_false (holds start r) ∙ ap (λ b. holds start r || b) (sym (holds-past from r (omega arith))))
]

-- ---- a whole word removed or added

pub word_cleared : (row : List ℕ) (at i : ℕ) → at < length row → holds (set row at 0) i ≡ (holds row i && not (at == i / 64))
word_cleared row at i lt = elim (cases_eq (i / 64) at) [
  | inl near ↦ holds_here row at 0 i lt near ∙ (ap (λ n. n == 1) (bit_at-zero (i % 64)) ∙ (and_false (holds row i) ∙ ap (λ b. holds row i && not b) (sym (eq-eqb at (i / 64) (sym near)))))
  | inr far ↦ holds_elsewhere row at 0 i far ∙ (and_true (holds row i) ∙ ap (λ b. holds row i && not b) (sym (ne_eqb at (i / 64) (λ e. far (sym e)))))
]

-- a word past the row's end need not be removed
pub word_cleared_past : (row : List ℕ) (at i : ℕ) → length row ≤ at → holds row i ≡ (holds row i && not (at == i / 64))
word_cleared_past row at i past = elim (cases_eq at (i / 64)) [
  | inl near ↦ (let out = holds-past row i (subst (λ x. length row ≤ x) near past) in out ∙ sym (ap (λ b. b && not (at == i / 64)) out))
  | inr far ↦ and_true (holds row i) ∙ ap (λ b. holds row i && not b) (sym (ne_eqb at (i / 64) far))
]

pub word_put : (row : List ℕ) (at w word i : ℕ) → w ≡ get_or row at 0 → at < length row → holds (set row at (bit_or w word)) i ≡ (holds row i || (at == i / 64 && bit_at word (i % 64) == 1))
word_put row at w word i read lt = elim (cases_eq (i / 64) at) [
  | inl near ↦
      holds_here row at (bit_or w word) i lt near
      ∙ (bits_or w word (i % 64)
      ∙ (ap (λ v. bit_at v (i % 64) == 1 || bit_at word (i % 64) == 1) (read ∙ ap (λ q. get_or row q 0) (sym near))
      ∙ ap (λ b. holds row i || (b && bit_at word (i % 64) == 1)) (sym (eq-eqb at (i / 64) (sym near)))))
  | inr far ↦ holds_elsewhere row at (bit_or w word) i far ∙ (or_false (holds row i) ∙ ap (λ b. holds row i || (b && bit_at word (i % 64) == 1)) (sym (ne_eqb at (i / 64) (λ e. far (sym e)))))
]
