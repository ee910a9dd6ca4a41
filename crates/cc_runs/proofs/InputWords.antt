-- The words of a line, one after the other.
use Rattle.std.proofs.Common.{◌≡◌, ℕ, List, [], ◌∷◌, ◌++◌, refl, sym, ap}
use Rattle.std.specs.Prelude.{Option, Some, None, option_map}
use Rattle.std.proofs.lemmas.List.{append_assoc}

-- the words so far, followed by those that are left
abbrev pub with_left : List ℕ → Option (List ℕ) → Option (List ℕ)
with_left so_far left = option_map (λ ws. so_far ++ ws) left

-- if `n` is the first of the words that are left, it may be counted among the words so far instead
pub one_more : (so_far : List ℕ) (n : ℕ) (left : Option (List ℕ)) → with_left so_far (option_map (λ ws. n ∷ ws) left) ≡ with_left (so_far ++ n ∷ []) left
one_more so_far n None = refl
one_more so_far n (Some ws) = ap Some (sym (append_assoc so_far (n ∷ []) ws))
