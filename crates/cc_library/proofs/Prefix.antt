-- Names compare as the numbers of their prefixes do, if these numbers differ.
use Rattle.std.proofs.Common.{◌≡◌, ℕ, zero, suc, ◌+◌, ◌*◌, ◌<◌, ◌≤◌, List, [], ◌∷◌, get_or, drop, length, Bool, true, false, ◌&&◌, Ordering, Less, Equal, Greater, inl, inr, refl, ap, ◌∙◌, subst, arith}
use Rattle.std.proofs.lemmas.Bool.{leb-true, eqb-true}
use Rattle.std.specs.Prelude.{◌⊎◌, ◌||◌, ◌==◌, nat_le, nat_lt}
use Rattle.std.specs.List.{list_all}
use Rattle.std.specs.Ordering.{MatchOrdering, nat_cmp, ordering_then}
use Rattle.std.specs.Cmp.{ranks, nat_cmp_is}
use Rattle.std.specs.Cmp.Lexicographic.{slice_cmp}
use Rattle.cc_library.specs.Name.{is_name, is_name_byte, is_small_letter}
use Rattle.cc_library.specs.Body.{AreBelow}
use Rattle.cc_library.specs.internal.Prefix.{prefix_number}
use Rattle.cc_library.proofs.Fields.{both_true}

-- ---- the number of a prefix

-- once byte `k` is taken into the number of a prefix, the bytes after it are left
at_byte : (a n k : ℕ) (bytes : List ℕ) → prefix_number a (suc n) (drop k bytes) ≡ prefix_number (a * 256 + get_or bytes k 0) n (drop (suc k) bytes)
unfolding prefix_number
at_byte a n zero [] = ap (λ (m : ℕ). prefix_number m n []) (omega arith)
at_byte a n zero (x ∷ bytes) = refl
at_byte a n (suc k) [] = ap (λ (m : ℕ). prefix_number m n []) (omega arith)
at_byte a n (suc k) (x ∷ bytes) = at_byte a n k bytes

ended : (a : ℕ) (bytes : List ℕ) → prefix_number a 0 bytes ≡ a
unfolding prefix_number
ended a bytes = refl

-- ---- how two prefixes compare

-- if one number is larger so far, it stays larger, whatever bytes follow
stays : (a b n : ℕ) (xs ys : List ℕ) → a < b → AreBelow 256 xs → prefix_number a n xs < prefix_number b n ys
unfolding prefix_number
stays a b zero xs ys lt below = lt
stays a b (suc n) [] [] lt below = stays (a * 256) (b * 256) n [] [] (omega (arith, lt)) tt
stays a b (suc n) [] (y ∷ ys) lt below = stays (a * 256) (b * 256 + y) n [] ys (omega (arith, lt)) tt
stays a b (suc n) (x ∷ xs) [] lt below = stays (a * 256 + x) (b * 256) n xs [] (omega (arith, lt, below.0)) below.1
stays a b (suc n) (x ∷ xs) (y ∷ ys) lt below = stays (a * 256 + x) (b * 256 + y) n xs ys (omega (arith, lt, below.0)) below.1

-- the number is least if no bytes follow
least : (a n : ℕ) (xs : List ℕ) → prefix_number a n [] ≤ prefix_number a n xs
unfolding prefix_number
least a zero xs = omega arith
least a (suc n) [] = omega arith
least a (suc n) (zero ∷ xs) = subst (λ (m : ℕ). prefix_number (a * 256) n [] ≤ prefix_number m n xs) (omega arith) (least (a * 256) n xs)
least a (suc n) (suc x ∷ xs) = omega (arith, stays (a * 256) (a * 256 + suc x) n [] xs (omega arith) tt)

-- two prefixes compare as their first bytes do, or, if these are equal, as their other bytes do
by_first : (a n x y : ℕ) (xs ys : List ℕ) (o : Ordering) → MatchOrdering o (x < y) (x ≡ y) (y < x) → x < 256 → y < 256 → AreBelow 256 xs → AreBelow 256 ys
    → (x ≡ y → MatchOrdering (slice_cmp nat_cmp xs ys) (prefix_number (a * 256 + x) n xs < prefix_number (a * 256 + y) n ys) (prefix_number (a * 256 + x) n xs ≡ prefix_number (a * 256 + y) n ys)
    (prefix_number (a * 256 + y) n ys < prefix_number (a * 256 + x) n xs))
    → MatchOrdering (ordering_then o (slice_cmp nat_cmp xs ys)) (prefix_number (a * 256 + x) n xs < prefix_number (a * 256 + y) n ys) (prefix_number (a * 256 + x) n xs ≡ prefix_number (a * 256 + y) n ys)
    (prefix_number (a * 256 + y) n ys < prefix_number (a * 256 + x) n xs)
by_first a n x y xs ys Less m small small2 below below2 same = stays (a * 256 + x) (a * 256 + y) n xs ys (omega (arith, m)) below
by_first a n x y xs ys Equal m small small2 below below2 same = same m
by_first a n x y xs ys Greater m small small2 below below2 same = stays (a * 256 + y) (a * 256 + x) n ys xs (omega (arith, m)) below2

fits : (a n : ℕ) (xs ys : List ℕ) → AreBelow 256 xs → AreBelow 256 ys → (prefix_number a n xs ≡ prefix_number a n ys → ⊥)
    → MatchOrdering (slice_cmp nat_cmp xs ys) (prefix_number a n xs < prefix_number a n ys) (prefix_number a n xs ≡ prefix_number a n ys) (prefix_number a n ys < prefix_number a n xs)
unfolding prefix_number
fits a zero xs ys below below2 differ = absurd (differ refl)
fits a (suc n) [] [] below below2 differ = absurd (differ refl)
fits a (suc n) [] (y ∷ ys) below below2 differ = omega (arith, least a (suc n) (y ∷ ys), differ)
fits a (suc n) (x ∷ xs) [] below below2 differ = omega (arith, least a (suc n) (x ∷ xs), differ)
fits a (suc n) (x ∷ xs) (y ∷ ys) below below2 differ = by_first a n x y xs ys (nat_cmp x y) (ranks x y) below.0 below2.0 below.1 below2.1
    (λ e. subst (λ (z : ℕ). (prefix_number (a * 256 + x) n xs ≡ prefix_number (a * 256 + z) n ys → ⊥)
    → MatchOrdering (slice_cmp nat_cmp xs ys) (prefix_number (a * 256 + x) n xs < prefix_number (a * 256 + z) n ys) (prefix_number (a * 256 + x) n xs ≡ prefix_number (a * 256 + z) n ys)
    (prefix_number (a * 256 + z) n ys < prefix_number (a * 256 + x) n xs)) e (fits (a * 256 + x) n xs ys below.1 below2.1) differ)

-- bytes compare as the numbers of their prefixes do, if these numbers differ
pub by_prefixes : (xs ys : List ℕ) → AreBelow 256 xs → AreBelow 256 ys → (prefix_number 0 8 xs ≡ prefix_number 0 8 ys → ⊥) → slice_cmp nat_cmp xs ys ≡ nat_cmp (prefix_number 0 8 xs) (prefix_number 0 8 ys)
by_prefixes xs ys below below2 differ = nat_cmp_is (prefix_number 0 8 xs) (prefix_number 0 8 ys) (slice_cmp nat_cmp xs ys) (fits 0 8 xs ys below below2 differ)

abbrev horner : ℕ → ℕ → ℕ
horner so_far byte = so_far * 256 + byte

-- the number of a prefix, written out for its eight bytes
pub prefix_is : (bytes : List ℕ) → prefix_number 0 8 bytes
    ≡ horner (horner (horner (horner (horner (horner (horner (horner 0 (get_or bytes 0 0)) (get_or bytes 1 0)) (get_or bytes 2 0)) (get_or bytes 3 0)) (get_or bytes 4 0)) (get_or bytes 5 0)) (get_or bytes 6 0)) (get_or bytes 7 0)
prefix_is bytes =
    let a1 = horner 0 (get_or bytes 0 0) in
    let a2 = horner a1 (get_or bytes 1 0) in
    let a3 = horner a2 (get_or bytes 2 0) in
    let a4 = horner a3 (get_or bytes 3 0) in
    let a5 = horner a4 (get_or bytes 4 0) in
    let a6 = horner a5 (get_or bytes 5 0) in
    let a7 = horner a6 (get_or bytes 6 0) in
    at_byte 0 7 0 bytes ∙ at_byte a1 6 1 bytes ∙ at_byte a2 5 2 bytes ∙ at_byte a3 4 3 bytes ∙ at_byte a4 3 4 bytes ∙ at_byte a5 2 5 bytes ∙ at_byte a6 1 6 bytes ∙ at_byte a7 0 7 bytes
    ∙ ended (horner a7 (get_or bytes 7 0)) (drop 8 bytes)

-- ---- the bytes of a name

either : (a b : Bool) → (a || b) ≡ true → (a ≡ true) ⊎ (b ≡ true)
either true b e = inl refl
either false b e = inr e

letter_below : (byte : ℕ) → is_small_letter byte ≡ true → byte < 256
letter_below byte e = omega (arith, leb-true _ _ (both_true (nat_le 97 byte) (nat_le byte 122) e).1)

later_below : (byte : ℕ) → is_name_byte byte ≡ true → byte < 256
later_below byte e = at (either (is_small_letter byte || (nat_le 48 byte && nat_le byte 57)) (byte == 95) e) where
  digit : (is_small_letter byte ≡ true) ⊎ ((nat_le 48 byte && nat_le byte 57) ≡ true) → byte < 256
  digit (inl p) = letter_below byte p
  digit (inr p) = omega (arith, leb-true _ _ (both_true (nat_le 48 byte) (nat_le byte 57) p).1)

  at : ((is_small_letter byte || (nat_le 48 byte && nat_le byte 57)) ≡ true) ⊎ ((byte == 95) ≡ true) → byte < 256
  at (inl p) = digit (either (is_small_letter byte) (nat_le 48 byte && nat_le byte 57) p)
  at (inr p) = omega (arith, eqb-true byte 95 p)

all_below : (bytes : List ℕ) → list_all is_name_byte bytes ≡ true → AreBelow 256 bytes
all_below [] e = tt
all_below (byte ∷ bytes) e =
    let both = both_true (is_name_byte byte) (list_all is_name_byte bytes) e in
    (later_below byte both.0, all_below bytes both.1)

-- the bytes of a name are below 256
pub name_below : (bytes : List ℕ) → is_name bytes ≡ true → AreBelow 256 bytes
name_below [] e = absurd (cc)
name_below (first ∷ later) e =
    let both = both_true (is_small_letter first && nat_lt (length later) 32) (list_all is_name_byte later) e in
    (letter_below first (both_true (is_small_letter first) (nat_lt (length later) 32) both.0).0, all_below later both.1)
