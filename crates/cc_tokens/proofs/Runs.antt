-- The scanner's runs and searches, on lists: a run is as long as possible, and a search returns the first place, however the
-- bytes are cut.
use Rattle.std.proofs.Common.{◌≡◌, ℕ, suc, zero, ◌<◌, ◌≤◌, Bool, true, false, cond, List, [], ◌∷◌, ◌++◌, length, take, drop, refl, ap, ◌∙◌, arith}
use Rattle.std.proofs.lemmas.Bool.{cond-true, cond-false, cond_both}
use Rattle.std.proofs.lemmas.List.{take-append-drop}
use Rattle.cc_tokens.specs.Tokens.{Continues, Nowhere}
use Rattle.cc_tokens.specs.internal.Scan.{offset_within, run_length}

-- a run fits within the bytes, and each of its bytes continues it
pub run_fits : (may : ℕ → ℕ → Bool) (before : ℕ) (bs : List ℕ) → run_length may before bs ≤ length bs
unfolding run_length
run_fits may before [] = omega arith
run_fits may before (b ∷ bs) =
    let ih = run_fits may b bs in
    elim (may before b) as (λ t. cond t (suc (run_length may b bs)) 0 ≤ suc (length bs)) [ true ↦ omega arith | false ↦ omega arith ]

pub run_continues : (may : ℕ → ℕ → Bool) (before : ℕ) (bs : List ℕ) → Continues may before (take (run_length may before bs) bs)
unfolding run_length
run_continues may before [] = tt
run_continues may before (b ∷ bs) =
    let ih = run_continues may b bs in
    cond_both (may before b) (suc (run_length may b bs)) 0 (λ n. Continues may before (take n (b ∷ bs))) (λ goes. (goes, ih)) (λ stops. tt)

-- no longer run is possible
pub run_longest : (may : ℕ → ℕ → Bool) (before : ℕ) (prefix rest : List ℕ) → Continues may before prefix → length prefix ≤ run_length may before (prefix ++ rest)
unfolding run_length
run_longest may before [] rest goes = omega arith
run_longest may before (b ∷ prefix) rest goes =
    let ih = run_longest may b prefix rest goes.1 in
    let e = cond-true (may before b) (suc (run_length may b (prefix ++ rest))) 0 goes.0 in
    omega arith

-- what a search looks for begins at the place that it returns, and at none of the places before that
pub place_fits : (test : List ℕ → Bool) (n : ℕ) (bs : List ℕ) → offset_within test n bs ≤ n
unfolding offset_within
place_fits test zero bs = omega arith
place_fits test (suc n) [] = omega arith
place_fits test (suc n) (b ∷ bs) =
    let ih = place_fits test n bs in
    elim (test (b ∷ bs)) as (λ t. cond t 0 (suc (offset_within test n bs)) ≤ suc n) [ true ↦ omega arith | false ↦ omega arith ]

pub place_nowhere : (test : List ℕ → Bool) (n : ℕ) (bs : List ℕ) → n ≤ length bs → Nowhere test (take (offset_within test n bs) bs) (drop (offset_within test n bs) bs)
unfolding offset_within
place_nowhere test zero bs fits = tt
place_nowhere test (suc n) [] fits = absurd (omega arith)
place_nowhere test (suc n) (b ∷ bs) fits =
    let ih = place_nowhere test n bs (omega arith) in
    let whole = take-append-drop (offset_within test n bs) bs in
    cond_both (test (b ∷ bs)) 0 (suc (offset_within test n bs)) (λ k. Nowhere test (take k (b ∷ bs)) (drop k (b ∷ bs))) (λ here. tt) (λ not_here. (ap (λ xs. test (b ∷ xs)) whole ∙ not_here, ih))

pub place_here : (test : List ℕ → Bool) (n : ℕ) (bs : List ℕ) → n ≤ length bs → offset_within test n bs < n → test (drop (offset_within test n bs) bs) ≡ true
unfolding offset_within
place_here test zero bs fits below = absurd (omega arith)
place_here test (suc n) [] fits below = absurd (omega arith)
place_here test (suc n) (b ∷ bs) fits below =
    let ih = place_here test n bs (omega arith) in
    cond_both (test (b ∷ bs)) 0 (suc (offset_within test n bs)) (λ k. k < suc n → test (drop k (b ∷ bs)) ≡ true) (λ here lt. here) (λ not_here lt. ih (omega arith)) below

-- a search returns the first place at which its test holds, however the bytes are cut
pub place_is : (test : List ℕ → Bool) (prefix after : List ℕ) (n : ℕ) → 0 < length after → Nowhere test prefix after → length prefix < n → test after ≡ true → offset_within test n (prefix ++ after) ≡ length prefix
unfolding offset_within
place_is test prefix after zero some none below here = absurd (omega arith)
place_is test [] [] (suc n) some none below here = absurd (omega arith)
place_is test [] (a ∷ after) (suc n) some none below here = cond-true _ _ _ here
place_is test (b ∷ prefix) after (suc n) some none below here = cond-false _ _ _ none.0 ∙ ap suc (place_is test prefix after n some none.1 (omega arith) here)

pub place_none_before : (test : List ℕ → Bool) (prefix after : List ℕ) → Nowhere test prefix after → offset_within test (length prefix) (prefix ++ after) ≡ length prefix
unfolding offset_within
place_none_before test [] after none = refl
place_none_before test (b ∷ prefix) after none = cond-false _ _ _ none.0 ∙ ap suc (place_none_before test prefix after none.1)
