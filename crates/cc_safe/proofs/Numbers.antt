-- What holds for the numbers below a bound, one number after another.
use Rattle.std.proofs.Common.{◌≡◌, ℕ, ◌+◌, ◌<◌, ◌⊎◌, List, [], ◌∷◌, ◌++◌, subst, inl, inr, arith, Contains}
use Rattle.std.proofs.lemmas.Bool.{cases_lt}
use Rattle.std.proofs.lemmas.List.Elements.{Contains-append_left}

-- what holds for each number below n, and for n, holds for each number below n + 1
pub below_next : (P : ℕ → Type 0) (n : ℕ) → ((f : ℕ) → f < n → P f) → P n → (f : ℕ) → f < n + 1 → P f
below_next P n all one f h = elim (cases_lt f n) [ inl k ↦ all f k | inr k ↦ (let same : n ≡ f = omega (arith, h, k) in subst P same one) ]

-- what a list contains, or what has a property, stays so after an addition to the list
pub still : (P : ℕ → Type 0) (xs : List ℕ) (x : ℕ) (f : ℕ) → Contains xs f ⊎ P f → Contains (xs ++ x ∷ []) f ⊎ P f
still P xs x f (inl has) = inl (Contains-append_left xs (x ∷ []) f has)
still P xs x f (inr is) = inr is
