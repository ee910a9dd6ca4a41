-- Blocks by their places in the list: a label's place, the places to which blocks lead, and where the chain from a label ends.
use Rattle.std.specs.Prelude.{◌≡◌, ℕ, suc, ◌<◌, ◌≤◌, Contains, length, List, [], ◌∷◌, map, get_or, ◌==◌, if◌then◌else◌, Option, Some, None}
use Rattle.cc_ltl.specs.declared.operation.Operation.{Operation}
use Rattle.cc_ltl.specs.declared.operation.Operation.TheVariants.{Branch, Return}
use Rattle.cc_ltl.specs.declared.block.Block.{Block}
use Rattle.cc_linear_language.specs.declared.item.LinearItem.{LinearItem}
use Rattle.cc_linear.specs.internal.Lays.{next}
use Rattle.cc_linear.specs.internal.Layout.{is_empty}
use Rattle.cc_linear.specs.internal.Reached.{Ways, Leaves, One, Two}

abbrev pub labels_of : List Block → List ℕ
labels_of blocks = map (λ (b : Block). b.label) blocks

-- the place of a label; the length of the list if the label is not in it
abbrev pub place_in : List ℕ → (label : ℕ) → ℕ
place_in [] label = 0
place_in (l ∷ ls) label = if l == label then 0 else suc (place_in ls label)

-- an empty block leads to its successor's place, any other to its own
abbrev pub next_place : List ℕ → (place : ℕ) → Block → ℕ
next_place labels place block = if is_empty block then place_in labels (next block.operation) else place

abbrev pub next_places : List ℕ → (place : ℕ) → List Block → List ℕ
next_places labels place [] = []
next_places labels place (b ∷ bs) = next_place labels place b ∷ next_places labels (suc place) bs

-- the place at which the chain from a label ends, and the label there
abbrev pub end_place : (labels ends : List ℕ) → (label : ℕ) → ℕ
end_place labels ends label = get_or ends (place_in labels label) 0

abbrev pub end_in : (labels ends : List ℕ) → (label : ℕ) → ℕ
end_in labels ends label = get_or labels (end_place labels ends label) 0

-- the places to which a block leads, with empty blocks passed over
abbrev pub ways_of : (labels ends : List ℕ) → Operation → Ways
ways_of labels ends (Branch from taken other) = Two (end_place labels ends taken) (end_place labels ends other)
ways_of labels ends Return = Leaves
ways_of labels ends op = One (end_place labels ends (next op))

abbrev pub graph_of : (labels ends : List ℕ) → List Block → List Ways
graph_of labels ends blocks = map (λ (b : Block). ways_of labels ends b.operation) blocks

-- an order of places, as an order of labels
abbrev pub labels_at : List ℕ → List ℕ → List ℕ
labels_at labels order = map (λ p. get_or labels p 0) order

-- the order that has only the label that comes next, if there is one
abbrev pub listed : Option ℕ → List ℕ
listed None = []
listed (Some l) = l ∷ []

abbrev pub listed_first : List ℕ → List ℕ
listed_first [] = []
listed_first (l ∷ ls) = l ∷ []

-- the list of an item, if there is one
abbrev pub listed_items : Option LinearItem → List LinearItem
listed_items None = []
listed_items (Some item) = item ∷ []

-- the labels of a function's blocks as they are listed: they do not decrease, and each is at its own place
pub record AreLabels (labels : List ℕ) : Type 0 where
  pub rising : (i j : ℕ) → i ≤ j → j < length labels → get_or labels i 0 ≤ get_or labels j 0
  pub first : (i : ℕ) → i < length labels → place_in labels (get_or labels i 0) ≡ i

-- there is a label wherever an operation leads
abbrev pub LeadsIn : List ℕ → Operation → Type 0
LeadsIn labels (Branch from taken other) = Contains labels taken × Contains labels other
LeadsIn labels Return = Unit {0}
LeadsIn labels op = Contains labels (next op)

abbrev pub AllLeadIn : List ℕ → List Block → Type 0
AllLeadIn labels [] = Unit {0}
AllLeadIn labels (b ∷ bs) = LeadsIn labels b.operation × AllLeadIn labels bs
