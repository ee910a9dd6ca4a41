-- Loops over the rows or the columns of a table: what has been done before a given line.
use Rattle.std.proofs.Common.{◌≡◌, ℕ, List, length, ◌+◌, ◌*◌, ◌/◌, ◌%◌, ◌<◌, ◌≤◌, ◌∙◌, sym, ap, arith, refl, inl, inr, Bool, true, false, ◌==◌, ◌&&◌, ◌||◌, not, nat_lt, if◌then◌else◌}
use Rattle.std.proofs.lemmas.Bool.{cases_eq, cases_lt, eq-eqb, ne_eqb}
use Rattle.std.proofs.lemmas.Bool.Decides.{nat_tests}
use Rattle.std.proofs.Math.Nat.{mul-suc, mul-le-mul_left, lt_of_mul-lt-mul_left}
use Rattle.cc_bits.specs.Rows.{holds, key, moved, row_moved}
use Rattle.cc_bits.specs.internal.Holding.{bit, holds-past}
use Rattle.cc_bits.proofs.Bits.{moved_none}
use Rattle.cc_bits.proofs.Keys.{next_row}
use Rattle.cc_bits.proofs.Tables.{moved_bit}

below : (j n : ℕ) → j < n → nat_lt j n ≡ true
below j n h = grind (arith, nat_tests)

not_below : (j n : ℕ) → n ≤ j → nat_lt j n ≡ false
not_below j n h = grind (arith, nat_tests)

same_below : (j n : ℕ) → (n ≡ j → ⊥) → nat_lt j (n + 1) ≡ nat_lt j n
same_below j n d = elim (cases_lt j n) [
  | inl lt ↦ below j (n + 1) (omega arith) ∙ sym (below j n lt)
  | inr ge ↦ not_below j (n + 1) (omega arith) ∙ sym (not_below j n ge)
]

or_false : (b : Bool) → (b || false) ≡ b
or_false true = refl
or_false false = refl

and_false : (b : Bool) → (b && false) ≡ false
and_false true = refl
and_false false = refl

and_true : (b : Bool) → (b && true) ≡ b
and_true true = refl
and_true false = refl

pub swap : (a b : Bool) → (a && b) ≡ (b && a)
swap true true = refl
swap true false = refl
swap false true = refl
swap false false = refl

or_swap : (a b : Bool) → (a || b) ≡ (b || a)
or_swap true true = refl
or_swap true false = refl
or_swap false true = refl
or_swap false false = refl

-- ---- the bits of one line are added to another line

-- the bits at the places before c have been added
abbrev pub PutBefore : (c : ℕ) → (own old now : ℕ → Bool) → Type 0
PutBefore c own old now = (j : ℕ) → now j ≡ (old j || (nat_lt j c && own j))

pub none_before : (own old : ℕ → Bool) → PutBefore 0 own old old
none_before own old j = sym (or_false (old j)) ∙ ap (λ b. old j || (b && own j)) (sym (not_below j 0 (omega arith)))

pub one_before : (c : ℕ) (own old now next : ℕ → Bool) → own c ≡ true → ((j : ℕ) → next j ≡ ((c == j) || now j)) → PutBefore c own old now → PutBefore (c + 1) own old next
one_before c own old now next there puts h j = elim (cases_eq c j) [
  | inl same ↦
      puts j ∙ (ap (λ b. b || now j) (eq-eqb c j same)
      ∙ (sym (or_true (old j)) ∙ (ap (λ b. old j || b) (sym (sym (ap own same) ∙ there)) ∙ ap (λ b. old j || (b && own j)) (sym (below j (c + 1) (omega arith))))))
  | inr other ↦ puts j ∙ (ap (λ b. b || now j) (ne_eqb c j other) ∙ (h j ∙ ap (λ b. old j || (b && own j)) (sym (same_below j c other))))
]
  where
    or_true : (b : Bool) → (b || true) ≡ true
    or_true true = refl
    or_true false = refl

pub skipped : (c : ℕ) (own old now : ℕ → Bool) → own c ≡ false → PutBefore c own old now → PutBefore (c + 1) own old now
skipped c own old now none h j = elim (cases_eq c j) [
  | inl same ↦
      h j ∙ (ap (λ b. old j || (b && own j)) (not_below j c (omega arith))
      ∙ ap (λ b. old j || b) (sym (and_false (nat_lt j (c + 1))) ∙ ap (λ b. nat_lt j (c + 1) && b) (sym (sym (ap own same) ∙ none))))
  | inr other ↦ h j ∙ ap (λ b. old j || (b && own j)) (sym (same_below j c other))
]

pub all_before : (c : ℕ) (own old now : ℕ → Bool) → ((j : ℕ) → c ≤ j → own j ≡ false) → PutBefore c own old now → (j : ℕ) → now j ≡ (old j || own j)
all_before c own old now past h j = elim (cases_lt j c) [
  | inl lt ↦ h j ∙ ap (λ b. old j || (b && own j)) (below j c lt)
  | inr ge ↦ h j ∙ (ap (λ b. old j || (nat_lt j c && b)) (past j ge) ∙ (ap (λ b. old j || b) (and_false (nat_lt j c)) ∙ ap (λ b. old j || b) (sym (past j ge))))
]

-- one more bit is added to row r, and no other row changes
pub row_put : (r c : ℕ) (bits : ℕ → Bool) (old now next : ℕ → ℕ → Bool) → bits c ≡ true → ((i j : ℕ) → next i j ≡ ((r == i && c == j) || now i j))
    → ((i : ℕ) → PutBefore c (λ j. r == i && bits j) (old i) (now i)) → (i : ℕ) → PutBefore (c + 1) (λ j. r == i && bits j) (old i) (next i)
row_put r c bits old now next there puts h i = elim (cases_eq r i) [
  | inl same ↦
      one_before c (λ j. r == i && bits j) (old i) (now i) (next i) (ap (λ b. b && bits c) (eq-eqb r i same) ∙ there)
      (λ j. puts i j ∙ ap (λ b. (b && c == j) || now i j) (eq-eqb r i same)) (h i)
  | inr other ↦ λ j. (puts i j ∙ ap (λ b. (b && c == j) || now i j) (ne_eqb r i other)) ∙ skipped c (λ k. r == i && bits k) (old i) (now i) (ap (λ b. b && bits c) (ne_eqb r i other)) (h i) j
]

pub row_skipped : (r c : ℕ) (bits : ℕ → Bool) (old now : ℕ → ℕ → Bool) → bits c ≡ false
    → ((i : ℕ) → PutBefore c (λ j. r == i && bits j) (old i) (now i)) → (i : ℕ) → PutBefore (c + 1) (λ j. r == i && bits j) (old i) (now i)
row_skipped r c bits old now none h i = skipped c (λ j. r == i && bits j) (old i) (now i) (ap (λ b. r == i && b) none ∙ and_false (r == i)) (h i)

-- a whole row is added
pub rows_put : (r : ℕ) (bits : ℕ → ℕ → Bool) (now next : ℕ → ℕ → Bool) → ((i j : ℕ) → next i j ≡ (now i j || (r == i && bits r j)))
    → ((c : ℕ) → PutBefore r (λ i. bits i c) (λ _. false) (λ i. now i c)) → (c : ℕ) → PutBefore (r + 1) (λ i. bits i c) (λ _. false) (λ i. next i c)
rows_put r bits now next puts h c = go (bits r c) refl
  where
    go : (b : Bool) → bits r c ≡ b → PutBefore (r + 1) (λ i. bits i c) (λ _. false) (λ i. next i c)
    go true e =
        one_before r (λ i. bits i c) (λ _. false) (λ i. now i c) (λ i. next i c) e
        (λ i. puts i c ∙ (ap (λ b. now i c || (r == i && b)) e ∙ (ap (λ b. now i c || b) (and_true (r == i)) ∙ or_swap (now i c) (r == i)))) (h c)
    go false e = λ i. (puts i c ∙ (ap (λ b. now i c || (r == i && b)) e ∙ (ap (λ b. now i c || b) (and_false (r == i)) ∙ or_false (now i c)))) ∙ skipped r (λ i. bits i c) (λ _. false) (λ i. now i c) e (h c) i

-- ---- in each line, one bit moves to another place

-- the bit has moved in the lines before line n
abbrev pub MovedBefore : (n from to : ℕ) → (old now : ℕ → ℕ → Bool) → Type 0
MovedBefore n from to old now = (i j : ℕ) → now i j ≡ (if nat_lt i n then moved from to (old i) j else old i j)

pub none_moved : (from to : ℕ) (old : ℕ → ℕ → Bool) → MovedBefore 0 from to old old
none_moved from to old i j = ap (λ b. if b then moved from to (old i) j else old i j) (sym (not_below i 0 (omega arith)))

module _ (n from to : ℕ) (old now : ℕ → ℕ → Bool) where
  -- no other line changes
  elsewhere : (i j : ℕ) → (n ≡ i → ⊥) → MovedBefore n from to old now → now i j ≡ (if nat_lt i (n + 1) then moved from to (old i) j else old i j)
  elsewhere i j other h = h i j ∙ ap (λ b. if b then moved from to (old i) j else old i j) (sym (same_below i n other))

  -- this line, before its bit moves and after
  was : (i j : ℕ) → n ≡ i → MovedBefore n from to old now → now i j ≡ old i j
  was i j same h = h i j ∙ ap (λ b. if b then moved from to (old i) j else old i j) (not_below i n (omega arith))

  is : (i j : ℕ) → n ≡ i → moved from to (old i) j ≡ (if nat_lt i (n + 1) then moved from to (old i) j else old i j)
  is i j same = ap (λ b. if b then moved from to (old i) j else old i j) (sym (below i (n + 1) (omega arith)))

  pub line_moved : (next : ℕ → ℕ → Bool) → ((i j : ℕ) → next i j ≡ (if n == i then moved from to (now i) j else now i j)) → MovedBefore n from to old now → MovedBefore (n + 1) from to old next
  line_moved next moves h i j = elim (cases_eq n i) [
    | inr other ↦ moves i j ∙ (ap (λ b. if b then moved from to (now i) j else now i j) (ne_eqb n i other) ∙ elsewhere i j other h)
    | inl same ↦
        moves i j ∙ (ap (λ b. if b then moved from to (now i) j else now i j) (eq-eqb n i same)
        ∙ (ap (λ x. if to == j then x || now i from else now i j && not (from == j)) (was i to same h)
        ∙ (ap (λ x. if to == j then old i to || x else now i j && not (from == j)) (was i from same h)
        ∙ (ap (λ x. if to == j then old i to || old i from else x && not (from == j)) (was i j same h)
        ∙ is i j same))))
  ]

  -- if no line from n on has bit `from` set, the bit has moved in all lines
  pub all_moved : ((i : ℕ) → n ≤ i → now i from ≡ false) → MovedBefore n from to old now → (i j : ℕ) → now i j ≡ moved from to (old i) j
  all_moved past h i j = elim (cases_lt i n) [
    | inl lt ↦ h i j ∙ ap (λ b. if b then moved from to (old i) j else old i j) (below i n lt)
    | inr ge ↦ stays j ge ∙ moved_none from to (old i) (sym (stays from ge) ∙ past i ge) j
  ]
    where
      stays : (k : ℕ) → n ≤ i → now i k ≡ old i k
      stays k ge = h i k ∙ ap (λ b. if b then moved from to (old i) k else old i k) (not_below i n ge)

-- the bit has moved in the rows before row r, each of `width` words; the record also says where the next row's words begin,
-- and that no row was added after the last one
pub record MovedTo (r width from to at target : ℕ) (old now : List ℕ) : Type 0 where
  pub here : at ≡ width * r + from / 64
  pub goes : target ≡ 64 * (width * r) + to
  pub few : (rows : ℕ) → length old ≤ width * rows → length now ≤ width * rows
  pub moved : MovedBefore r from to (bit width old) (bit width now)

pub nowhere_moved : (width from to at target : ℕ) (words : List ℕ) → at ≡ from / 64 → target ≡ to → MovedTo 0 width from to at target words words
nowhere_moved width from to at target words a t = record {
  here = a ∙ (let z : width * 0 ≡ 0 = omega arith in omega (arith, z));
  goes = t ∙ (let z : width * 0 ≡ 0 = omega arith in omega (arith, z));
  few = λ rows h. h;
  moved = none_moved from to (bit width words);
}

-- one more row, which is one of the table's rows, so the new bit lies before the end of the rows
module _ (r width from to at target : ℕ) (old now next : List ℕ) (h : MovedTo r width from to at target old now) (f : from < 64 * width) (t : to < 64 * width) where
  -- a row that has a word is among the rows that hold the words
  inside : (many : ℕ) → length now ≤ width * many → at < length now → r < many
  inside many few lt = let here = h.here in lt_of_mul-lt-mul_left width {m = r} {n = many} (omega (arith, here, few, lt))

  pub before_end : (many : ℕ) → length now ≤ width * many → at < length now → target / 64 < width * many
  before_end many few lt = let next = next_row width r many (inside many few lt) in let goes = h.goes in omega (arith, goes, next, t)

  pub still_few : at < length now → ((most : ℕ) → length now ≤ most → target / 64 < most → length next ≤ most) → (many : ℕ) → length old ≤ width * many → length next ≤ width * many
  still_few lt grows many few = grows (width * many) (h.few many few) (before_end many (h.few many few) lt)

  pub row_moved_on : at < length now → ((most : ℕ) → length now ≤ most → target / 64 < most → length next ≤ most)
      → ((k : ℕ) → holds next k ≡ moved (64 * at + from % 64) target (holds now) k) → MovedTo (r + 1) width from to (at + width) (target + 64 * width) old next
  row_moved_on lt grows moves = record {
    here = let more = mul-suc width r in let here = h.here in omega (arith, more, here);
    goes = let more = mul-suc width r in let goes = h.goes in omega (arith, more, goes);
    few = still_few lt grows;
    moved = line_moved r from to (bit width old) (bit width now) (bit width next)
        (moved_bit width r from to now next f t (λ k. moves k ∙ (ap (λ n. moved n target (holds now) k) number ∙ ap (λ n. moved (key width r from) n (holds now) k) (h.goes)))) h.moved;
  }
    where
      number : 64 * at + from % 64 ≡ key width r from
      number = let here = h.here in omega (arith, here)

  pub all_rows_moved : length now ≤ at → (i j : ℕ) → bit width now i j ≡ moved from to (bit width old i) j
  all_rows_moved end = all_moved r from to (bit width old) (bit width now) past h.moved
    where
      later : (i : ℕ) → r ≤ i → width * r ≤ width * i
      later i le = mul-le-mul_left {m = r} {n = i} width le

      past : (i : ℕ) → r ≤ i → bit width now i from ≡ false
      past i le =
          ap (λ b. nat_lt from (64 * width) && b) (holds-past now (key width i from) (let here = h.here in let more = later i le in omega (arith, here, more, end)))
          ∙ and_false (nat_lt from (64 * width))

-- ---- the bits of a row move to another row, word by word

-- the bits of the columns whose words come before word n have moved
abbrev pub WordsMoved : (n from to : ℕ) → (old now : ℕ → ℕ → Bool) → Type 0
WordsMoved n from to old now = (r c : ℕ) → now r c ≡ (if nat_lt (c / 64) n then row_moved from to old r c else old r c)

pub no_words_moved : (from to : ℕ) (old : ℕ → ℕ → Bool) → WordsMoved 0 from to old old
no_words_moved from to old r c = ap (λ b. if b then row_moved from to old r c else old r c) (sym (not_below (c / 64) 0 (omega arith)))

-- a column that is the same in both tables moves in the same way
same_column : (from to r c : ℕ) (old now : ℕ → ℕ → Bool) → ((x : ℕ) → now x c ≡ old x c) → row_moved from to now r c ≡ row_moved from to old r c
same_column from to r c old now same =
    ap (λ x. if to == r then x || now from c else now r c && not (from == r)) (same to)
    ∙ (ap (λ x. if to == r then old to c || x else now r c && not (from == r)) (same from)
    ∙ ap (λ x. if to == r then old to c || old from c else x && not (from == r)) (same r))

pub one_word_moved : (n from to : ℕ) (old now next : ℕ → ℕ → Bool) → ((r c : ℕ) → next r c ≡ (if n == c / 64 then row_moved from to now r c else now r c))
    → WordsMoved n from to old now → WordsMoved (n + 1) from to old next
one_word_moved n from to old now next moves h r c = elim (cases_eq n (c / 64)) [
  | inr other ↦
      moves r c ∙ (ap (λ b. if b then row_moved from to now r c else now r c) (ne_eqb n (c / 64) other)
      ∙ (h r c ∙ ap (λ b. if b then row_moved from to old r c else old r c) (sym (same_below (c / 64) n other))))
  | inl same ↦
      moves r c ∙ (ap (λ b. if b then row_moved from to now r c else now r c) (eq-eqb n (c / 64) same)
      ∙ (same_column from to r c old now (λ x. h x c ∙ ap (λ b. if b then row_moved from to old x c else old x c) (not_below (c / 64) n (omega (arith, same))))
      ∙ ap (λ b. if b then row_moved from to old r c else old r c) (sym (below (c / 64) (n + 1) (omega (arith, same))))))
]

pub all_words_moved : (n from to : ℕ) (old now : ℕ → ℕ → Bool) → ((r c : ℕ) → 64 * n ≤ c → old r c ≡ false) → WordsMoved n from to old now → (r c : ℕ) → now r c ≡ row_moved from to old r c
all_words_moved n from to old now past h r c = elim (cases_lt (c / 64) n) [
  | inl lt ↦ h r c ∙ ap (λ b. if b then row_moved from to old r c else old r c) (below (c / 64) n lt)
  | inr ge ↦ h r c ∙ (ap (λ b. if b then row_moved from to old r c else old r c) (not_below (c / 64) n ge) ∙ none (to == r) (omega (arith, ge)))
]
  where
    none : (b : Bool) → 64 * n ≤ c → old r c ≡ (if b then old to c || old from c else old r c && not (from == r))
    none true ge = past r c ge ∙ sym (ap (λ x. x || old from c) (past to c ge) ∙ past from c ge)
    none false ge = past r c ge ∙ sym (ap (λ x. x && not (from == r)) (past r c ge))
