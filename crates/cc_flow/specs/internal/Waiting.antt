-- Which nodes wait, as a flag for each node and as a heap of the nodes that wait.
use Rattle.std.specs.Prelude.{◌≡◌, ℕ, List, Bool, false, ◌==◌, get_or, sum_by, [], ◌∷◌, ◌+◌, if◌then◌else◌}

-- whether a node waits
abbrev pub waits : List Bool → (node : ℕ) → Bool
waits flags node = get_or flags node false

-- how many nodes wait
abbrev pub how_many : List Bool → ℕ
how_many [] = 0
how_many (b ∷ flags) = (if b then 1 else 0) + how_many flags

-- how often a node occurs in a list
abbrev pub times : (node : ℕ) → List ℕ → ℕ
times node nodes = sum_by (λ x. if x == node then 1 else 0) nodes

-- a node that waits occurs in the list once, any other node not at all
abbrev pub IsQueued : List ℕ → List Bool → Type 0
IsQueued nodes flags = (node : ℕ) → times node nodes ≡ (if waits flags node then 1 else 0)
