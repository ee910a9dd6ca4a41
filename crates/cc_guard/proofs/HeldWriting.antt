-- Code that holds words in variables, as the lists of statements that the pass writes.
use Rattle.std.proofs.Common.{◌≡◌, ℕ, suc, List, [], ◌∷◌, ◌++◌, refl, ap}
use Rattle.cc_cminor_language.specs.Cminor.{Constant, Statement, Set, Sequence}
use Rattle.cc_cminor_language.specs.Code.{in_sequence}
use Rattle.cc_guard.specs.Held.{held_in, put_first}

-- a list of statements whose conditions read the words
abbrev pub all_held : List ℕ → (m : ℕ) → List Statement → List Statement
all_held ws m [] = []
all_held ws m (s ∷ ss) = held_in ws m s ∷ all_held ws m ss

pub sequence_held : (ws : List ℕ) (m : ℕ) (ss : List Statement) → held_in ws m (in_sequence ss) ≡ in_sequence (all_held ws m ss)
sequence_held ws m [] = refl
sequence_held ws m (s ∷ []) = refl
sequence_held ws m (s ∷ t ∷ ss) = ap (λ x. Sequence (held_in ws m s) x) (sequence_held ws m (t ∷ ss))

-- the statements that put the words into their variables
abbrev pub puts_code : List ℕ → (m : ℕ) → List Statement
puts_code [] m = []
puts_code (w ∷ ws) m = Set m (Constant w) ∷ puts_code ws (suc m)

pub first_code : (ws : List ℕ) (m : ℕ) (s : Statement) → in_sequence (puts_code ws m ++ s ∷ []) ≡ put_first ws m s
first_code [] m s = refl
first_code (w ∷ []) m s = refl
first_code (w ∷ v ∷ ws) m s = ap (λ x. Sequence (Set m (Constant w)) x) (first_code (v ∷ ws) (suc m) s)
