-- The nodes of a function by their positions, as dataflow numbers them.
use Rattle.std.specs.Prelude.{◌≡◌, ℕ, suc, List, [], ◌∷◌, map, ◌==◌, if◌then◌else◌}
use Rattle.cc_rtl_language.specs.Rtl.{Labelled, successors}

-- the labels are consecutive numbers; if they begin with 0, they are the positions
abbrev pub AreNumbered : (from : ℕ) → List Labelled → Type 0
AreNumbered from [] = Unit {0}
AreNumbered from (n ∷ ns) = (n.label ≡ from) × AreNumbered (suc from) ns

-- the position of the node with this label, or the length if there is none
abbrev pub position_of : List Labelled → (label : ℕ) → ℕ
position_of [] label = 0
position_of (n ∷ ns) label = if n.label == label then 0 else suc (position_of ns label)

-- the successors of each node by their positions
abbrev pub graph_of : List Labelled → List (List ℕ)
graph_of nodes = map (λ n. map (position_of nodes) (successors n.node)) nodes
