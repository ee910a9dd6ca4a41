-- The table of what functions need, as the code makes it.
use Rattle.std.specs.Prelude.{ℕ, ◌+◌, ◌≤◌, List, [], ◌∷◌, get_or}
use Rattle.cc_emit.specs.declared.item.PieceItem.{PieceItem}
use Rattle.cc_link.specs.Stack.{most_called}

-- each entry is at most `most`
abbrev pub AreFew : (most : ℕ) → List ℕ → Type 0
AreFew most table = (f : ℕ) → get_or table f 0 ≤ most

-- for each function, its own bytes plus the largest value of n at a function that it calls
abbrev pub deeper : (n : ℕ → ℕ) → (own : List ℕ) → List (List PieceItem) → List ℕ
deeper n [] bodies = []
deeper n (w ∷ ws) [] = []
deeper n (w ∷ ws) (b ∷ bs) = (w + most_called n b) ∷ deeper n ws bs
