-- The steps of the scanner's loops: how each result at an offset follows from the result one byte later.
use Rattle.std.proofs.Common.{◌≡◌, ℕ, suc, ◌+◌, ◌-◌, ◌*◌, ◌<◌, ◌≤◌, Bool, true, false, cond, List, [], ◌∷◌, length, get_or, drop, refl, ap, ◌∙◌, arith, nat_eq}
use Rattle.std.proofs.lemmas.List.{drop_more, drop_all}
use Rattle.std.proofs.lemmas.Bool.{cond-true, cond-false, false≢true, and_parts}
use Rattle.cc_tokens.specs.Tokens.{begins_close}
use Rattle.cc_tokens.specs.internal.Scan.{offset_within, run_length}

-- a search ends at the first offset if its test holds there, and otherwise continues one byte later
place_first : (test : List ℕ → Bool) (k x : ℕ) (xs : List ℕ) → offset_within test (suc k) (x ∷ xs) ≡ cond (test (x ∷ xs)) 0 (suc (offset_within test k xs))
unfolding offset_within
place_first test k x xs = refl

pub place_none : (test : List ℕ → Bool) (n : ℕ) (bytes : List ℕ) → offset_within test (n - n) (drop n bytes) ≡ 0
unfolding offset_within
place_none test n bytes = let e : n - n ≡ 0 = omega arith in rw e refl

module _ (test : List ℕ → Bool) (n i : ℕ) (bytes : List ℕ) (below : i < n) (within : i < length bytes) where
  place_at : offset_within test (n - i) (drop i bytes) ≡ cond (test (drop i bytes)) 0 (suc (offset_within test (n - (i + 1)) (drop (i + 1) bytes)))
  place_at =
      let e : n - i ≡ suc (n - (i + 1)) = omega arith in
      let d = drop_more bytes i 0 within in
      rw (e, d) (place_first test (n - (i + 1)) (get_or bytes i 0) (drop (i + 1) bytes))

  pub place_found : test (drop i bytes) ≡ true → offset_within test (n - i) (drop i bytes) ≡ 0
  place_found here = place_at ∙ cond-true _ _ _ here

  pub place_more : test (drop i bytes) ≡ false → offset_within test (n - i) (drop i bytes) ≡ suc (offset_within test (n - (i + 1)) (drop (i + 1) bytes))
  place_more not_here = place_at ∙ cond-false _ _ _ not_here

run_first : (may : ℕ → ℕ → Bool) (before x : ℕ) (xs : List ℕ) → run_length may before (x ∷ xs) ≡ cond (may before x) (suc (run_length may x xs)) 0
unfolding run_length
run_first may before x xs = refl

run_empty : (may : ℕ → ℕ → Bool) (before : ℕ) → run_length may before [] ≡ 0
unfolding run_length
run_empty may before = refl

pub run_end : (may : ℕ → ℕ → Bool) (before n : ℕ) (bytes : List ℕ) → length bytes ≤ n → run_length may before (drop n bytes) ≡ 0
run_end may before n bytes past = ap (λ xs. run_length may before xs) (drop_all n bytes past) ∙ run_empty may before

module _ (may : ℕ → ℕ → Bool) (before n : ℕ) (bytes : List ℕ) (within : n < length bytes) where
  run_at : run_length may before (drop n bytes) ≡ cond (may before (get_or bytes n 0)) (suc (run_length may (get_or bytes n 0) (drop (n + 1) bytes))) 0
  run_at = ap (λ xs. run_length may before xs) (drop_more bytes n 0 within) ∙ run_first may before (get_or bytes n 0) (drop (n + 1) bytes)

  pub run_stop : may before (get_or bytes n 0) ≡ false → run_length may before (drop n bytes) ≡ 0
  run_stop stops = run_at ∙ cond-false _ _ _ stops

  pub run_more : may before (get_or bytes n 0) ≡ true → run_length may before (drop n bytes) ≡ suc (run_length may (get_or bytes n 0) (drop (n + 1) bytes))
  run_more goes = run_at ∙ cond-true _ _ _ goes

-- a capped value times a base does not overflow
pub capped_product : (v base : ℕ) → v ≤ 4294967296 → base ≤ 16 → v * base ≤ 68719476736
capped_product v base small few = grind arith

-- `*/` has two bytes
pub close_fits : (xs : List ℕ) → begins_close xs ≡ true → 2 ≤ length xs
close_fits [] here = absurd (false≢true here)
close_fits (a ∷ []) here = absurd (false≢true ((and_parts (nat_eq a 42) _ here).1))
close_fits (a ∷ b ∷ xs) here = omega arith
