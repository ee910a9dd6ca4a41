-- The bytes of an image in order are the bytes at its addresses.
use Rattle.std.proofs.Common.{◌≡◌, ℕ, zero, suc, ◌+◌, ◌-◌, ◌*◌, ◌/◌, ◌%◌, ◌^◌, ◌<◌, ◌≤◌, eqb, leb, ltb, ◌&&◌, Bool, cond, true, false, List, [], ◌∷◌, ◌++◌, length, get_or, Option, Some, refl, ap, sym, subst, ◌∙◌, arith, append_assoc, inl, inr}
use Rattle.std.proofs.lemmas.Bool.{cases_lt}
use Rattle.std.proofs.lemmas.Bool.Decides.{nat_tests}
use Rattle.cc_hex.specs.Format.{AddressedByte, cells_from, read}
use Rattle.cc_hex.specs.Contents.{byte_of_words, bytes_at, bytes_of_words, GivesAt}
use Rattle.cc_hex.proofs.Whole.{long}

bytes_at-append : (xs ys : List AddressedByte) (a : ℕ) → bytes_at (xs ++ ys) a ≡ bytes_at xs a ++ bytes_at ys a
bytes_at-append [] ys a = refl
bytes_at-append (x ∷ xs) ys a =
    let here : List ℕ = cond (eqb x.address a) (x.byte ∷ []) [] in
    ap (λ bs. here ++ bs) (bytes_at-append xs ys a) ∙ sym (append_assoc here (bytes_at xs a) (bytes_at ys a))

-- the byte at an address, given bytes that begin at another address
byte_from : (from : ℕ) (bytes : List ℕ) (a : ℕ) → List ℕ
byte_from from bytes a = cond (leb from a && ltb a (from + length bytes)) (get_or bytes (a - from) 0 ∷ []) []

before : (from : ℕ) (bytes : List ℕ) (a : ℕ) → a < from → byte_from from bytes a ≡ []
unfolding byte_from
before from bytes a lt = ap (λ b. cond b (get_or bytes (a - from) 0 ∷ []) []) (let t : (leb from a && ltb a (from + length bytes)) ≡ false = grind (arith, nat_tests) in t)

behind : (from : ℕ) (bytes : List ℕ) (a : ℕ) → from + length bytes ≤ a → byte_from from bytes a ≡ []
unfolding byte_from
behind from bytes a le = ap (λ b. cond b (get_or bytes (a - from) 0 ∷ []) []) (let t : (leb from a && ltb a (from + length bytes)) ≡ false = grind (arith, nat_tests) in t)

within : (from : ℕ) (bytes : List ℕ) (a i : ℕ) → a ≡ from + i → i < length bytes → byte_from from bytes a ≡ get_or bytes i 0 ∷ []
unfolding byte_from
within from bytes a i e lt =
    let index : a - from ≡ i = omega arith in
    ap (λ b. cond b (get_or bytes (a - from) 0 ∷ []) []) (let t : (leb from a && ltb a (from + length bytes)) ≡ true = grind (arith, nat_tests) in t)
    ∙ ap (λ i. get_or bytes i 0 ∷ []) index

not_here : (x a : ℕ) → (x ≡ a → ⊥) → eqb x a ≡ false
not_here x a ne = grind (arith, nat_tests)

is_here : (x a : ℕ) → x ≡ a → eqb x a ≡ true
is_here x a e = grind (arith, nat_tests)

-- the byte at an address is the first one, if that is its address, or one of those after it
first_or_rest : (from : ℕ) (b : ℕ) (bs : List ℕ) (a : ℕ) → cond (eqb from a) (b ∷ []) [] ++ byte_from (from + 1) bs a ≡ byte_from from (b ∷ bs) a
first_or_rest from b bs a =
    elim (cases_lt a from) [
      | inl p ↦
          ap (λ t. cond t (b ∷ []) [] ++ byte_from (from + 1) bs a) (not_here from a (λ e. omega arith))
          ∙ before (from + 1) bs a (omega arith) ∙ sym (before from (b ∷ bs) a p)
      | inr p ↦ elim (cases_lt from a) [
        | inl q ↦
            ap (λ t. cond t (b ∷ []) [] ++ byte_from (from + 1) bs a) (not_here from a (λ e. omega arith))
            ∙ elim (cases_lt a (from + 1 + length bs)) [
              | inl r ↦ within (from + 1) bs a (a - (from + 1)) (omega arith) (omega arith) ∙ sym (within from (b ∷ bs) a (suc (a - (from + 1))) (omega arith) (omega arith))
              | inr r ↦ behind (from + 1) bs a r ∙ sym (behind from (b ∷ bs) a (omega arith))
            ]
        | inr q ↦
            ap (λ t. cond t (b ∷ []) [] ++ byte_from (from + 1) bs a) (is_here from a (omega arith))
            ∙ ap (λ rest. (b ∷ []) ++ rest) (before (from + 1) bs a (omega arith))
            ∙ sym (within from (b ∷ bs) a 0 (omega arith) (omega arith))
      ]
    ]

cells_at : (from : ℕ) (bytes : List ℕ) (a : ℕ) → from + length bytes ≤ 2 ^ 32 → bytes_at (cells_from from bytes) a ≡ byte_from from bytes a
cells_at from [] a fits =
    elim (cases_lt a from) [
      | inl p ↦ sym (before from [] a p)
      | inr p ↦ sym (behind from [] a (omega arith))
    ]
cells_at from (b ∷ bs) a fits =
    let low : from % 2 ^ 32 ≡ from = omega arith in
    let rest : bytes_at (cells_from (from + 1) bs) a ≡ byte_from (from + 1) bs a = cells_at (from + 1) bs a (omega arith) in
    ap (λ n. cond (eqb n a) (b ∷ []) [] ++ bytes_at (cells_from (from + 1) bs) a) low
    ∙ ap (λ others. cond (eqb from a) (b ∷ []) [] ++ others) rest
    ∙ first_or_rest from b bs a

-- byte i of words is byte i % 4 of word i / 4
byte_index : (words : List ℕ) (i : ℕ) → i < 4 * length words → get_or (bytes_of_words words) i 0 ≡ get_or words (i / 4) 0 / 2 ^ (8 * (i % 4)) % 256
byte_index [] i lt = absurd (omega arith)
byte_index (w ∷ ws) zero lt = let one : w / 1 ≡ w = omega arith in ap (λ n. n % 256) (sym one)
byte_index (w ∷ ws) (suc zero) lt = refl
byte_index (w ∷ ws) (suc (suc zero)) lt = refl
byte_index (w ∷ ws) (suc (suc (suc zero))) lt = refl
byte_index (w ∷ ws) (suc (suc (suc (suc k)))) lt =
    let quotient : suc (suc (suc (suc k))) / 4 ≡ suc (k / 4) = omega arith in
    let remainder : suc (suc (suc (suc k))) % 4 ≡ k % 4 = omega arith in
    byte_index ws k (omega arith)
    ∙ ap (λ q. get_or (w ∷ ws) q 0 / 2 ^ (8 * (k % 4)) % 256) (sym quotient)
    ∙ ap (λ r. get_or (w ∷ ws) (suc (suc (suc (suc k))) / 4) 0 / 2 ^ (8 * r) % 256) (sym remainder)

same_choice : (t : Bool) (x y : ℕ) → (t ≡ true → x ≡ y) → cond t (x ∷ []) [] ≡ cond t (y ∷ []) []
same_choice true x y h = ap (λ n. n ∷ []) (h refl)
same_choice false x y h = refl

inside : (from a n : ℕ) → (leb from a && ltb a (from + n)) ≡ true → a - from < n
inside from a n t = grind (arith, nat_tests)

words_at : (from : ℕ) (words : List ℕ) (a : ℕ) → byte_from from (bytes_of_words words) a ≡ byte_of_words from words a
unfolding byte_from
words_at from words a =
    ap (λ n. cond (leb from a && ltb a (from + n)) (get_or (bytes_of_words words) (a - from) 0 ∷ []) []) (long words)
    ∙ same_choice (leb from a && ltb a (from + 4 * length words)) (get_or (bytes_of_words words) (a - from) 0) (get_or words ((a - from) / 4) 0 / 2 ^ (8 * ((a - from) % 4)) % 256)
    (λ t. byte_index words (a - from) (inside from a (4 * length words) t))

block_at : (from : ℕ) (words : List ℕ) (a : ℕ) → from + 4 * length words ≤ 2 ^ 32 → bytes_at (cells_from from (bytes_of_words words)) a ≡ byte_of_words from words a
block_at from words a fits =
    let n : length (bytes_of_words words) ≡ 4 * length words = long words in
    cells_at from (bytes_of_words words) a (omega arith) ∙ words_at from words a

-- what the text gives in order holds at each address
pub held : (code globals text : List ℕ) → length code ≤ 131072 → length globals ≤ 131072 →
    read text ≡ Some (cells_from 65536 (bytes_of_words code) ++ cells_from 2097152 (bytes_of_words globals)) →
    (a : ℕ) → GivesAt (read text) a (byte_of_words 65536 code a ++ byte_of_words 2097152 globals a)
held code globals text few_code few_globals e a =
    let code_cells : List AddressedByte = cells_from 65536 (bytes_of_words code) in
    let globals_cells : List AddressedByte = cells_from 2097152 (bytes_of_words globals) in
    subst (λ (found : Option (List AddressedByte)). GivesAt found a (byte_of_words 65536 code a ++ byte_of_words 2097152 globals a)) (sym e)
    (bytes_at-append code_cells globals_cells a
    ∙ ap (λ bs. bs ++ bytes_at globals_cells a) (block_at 65536 code a (omega arith))
    ∙ ap (λ bs. byte_of_words 65536 code a ++ bs) (block_at 2097152 globals a (omega arith)))
