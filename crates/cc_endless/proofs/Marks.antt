-- How many reads an output has: the reads of its parts add up, and there are no more reads than entries.
use Rattle.std.proofs.Common.{◌≡◌, ℕ, suc, ◌+◌, ◌≤◌, ◌^◌, Bool, true, false, nat_lt, if◌then◌else◌, List, [], ◌∷◌, ◌++◌, length, refl, sym, ap, ◌∙◌, arith}
use Rattle.std.proofs.lemmas.List.{length-append}
use Rattle.cc_words.specs.Observed.{read_mark, reads_in}
use Rattle.cc_simulation.specs.Behavior.{IsPrefixOf}

reads_by : (b : Bool) (m k : ℕ) → (if b then m + k else suc (m + k)) ≡ (if b then m else suc m) + k
reads_by true m k = refl
reads_by false m k = omega arith

pub reads_append : (xs ys : List ℕ) → reads_in (xs ++ ys) ≡ reads_in xs + reads_in ys
reads_append [] ys = omega arith
reads_append (x ∷ xs) ys =
    ap (λ n. if nat_lt x (2 ^ 32) then n else suc n) (reads_append xs ys) ∙ reads_by (nat_lt x (2 ^ 32)) (reads_in xs) (reads_in ys)

pub reads_begin : (xs ys : List ℕ) → IsPrefixOf xs ys → reads_in xs ≤ reads_in ys
reads_begin xs ys p = let e : reads_in ys ≡ reads_in xs + reads_in p.0 = ap reads_in (sym p.1) ∙ reads_append xs p.0 in omega arith

few_by : (b : Bool) (m k : ℕ) → m ≤ k → (if b then m else suc m) ≤ suc k
few_by true m k le = omega arith
few_by false m k le = omega arith

pub reads_few : (xs : List ℕ) → reads_in xs ≤ length xs
reads_few [] = omega arith
reads_few (x ∷ xs) = few_by (nat_lt x (2 ^ 32)) (reads_in xs) (length xs) (reads_few xs)

-- a read is one more read, and one more entry
pub reads_read : (xs : List ℕ) → reads_in (xs ++ read_mark ∷ []) ≡ suc (reads_in xs)
reads_read xs = let e : reads_in (xs ++ read_mark ∷ []) ≡ reads_in xs + 1 = reads_append xs (read_mark ∷ []) in omega arith

pub long_read : (xs : List ℕ) → length (xs ++ read_mark ∷ []) ≡ suc (length xs)
long_read xs = let e : length (xs ++ read_mark ∷ []) ≡ length xs + 1 = length-append xs (read_mark ∷ []) in omega arith
