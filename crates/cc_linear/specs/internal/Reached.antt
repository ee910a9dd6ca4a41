-- What is reached in a graph.
use Rattle.std.specs.Prelude.{◌≡◌, ℕ, suc, ◌+◌, ◌<◌, ◌≤◌, List, [], ◌∷◌, ◌++◌, Bool, true, false, get_or, length, All, cond}
use Rattle.std.specs.List.{Contains}
pub use Rattle.cc_linear.specs.declared.tracing.ways.Ways.{Ways}
pub use Rattle.cc_linear.specs.declared.tracing.ways.Ways.TheVariants.{Leaves, One, Two}

abbrev pub WaysBelow : ℕ → Ways → Type 0
WaysBelow n Leaves = Unit {0}
WaysBelow n (One a) = a < n
WaysBelow n (Two a b) = (a < n) × (b < n)

abbrev pub HasWays : List ℕ → Ways → Type 0
HasWays found Leaves = Unit {0}
HasWays found (One a) = Contains found a
HasWays found (Two a b) = Contains found a × Contains found b

abbrev pub InGraph : List Ways → Type 0
InGraph graph = All (WaysBelow (length graph)) graph

-- the labels to which the first i found labels lead were found too
abbrev pub ClosedTo : List Ways → List ℕ → ℕ → Type 0
ClosedTo graph found i = (k : ℕ) → k < i → HasWays found (get_or graph (get_or found k 0) Leaves)

abbrev pub unmarked : List Bool → ℕ
unmarked [] = 0
unmarked (b ∷ bs) = cond b (unmarked bs) (suc (unmarked bs))

pub record Found (seen : List Bool) (found : List ℕ) : Type 0 where
  pub marks : (l : ℕ) → get_or seen l false ≡ true → Contains found l
  pub inside : All (λ l. l < length seen) found
  pub count : length found + unmarked seen ≤ length seen

pub record Grew (old new : List ℕ) : Type 0 where
  pub rest : List ℕ
  pub is : new ≡ old ++ rest

-- the order has all labels to which its labels lead
abbrev pub IsClosed : List Ways → List ℕ → Type 0
IsClosed graph order = (l : ℕ) → Contains order l → HasWays order (get_or graph l Leaves)
