-- Facts at the nodes of a graph, carried backward. A graph is the list of its nodes' successors; nodes are numbers from 0.
use Rattle.std.specs.Prelude.{ℕ, ◌<◌, List, [], ◌∷◌, get_or, map, All, length}
use Rattle.smallvec.specs.SmallVec.{SmallVec}

-- a graph of these rows, one for each node
abbrev pub rows_of : List (SmallVec ℕ) → List (List ℕ)
rows_of rows = map (λ row. row.items) rows

-- the nodes that a node leads to; none for a node that does not exist
abbrev pub successors_of : List (List ℕ) → (node : ℕ) → List ℕ
successors_of graph node = get_or graph node []

-- all successors are nodes of the graph
abbrev pub IsGraph : List (List ℕ) → Type 0
IsGraph graph = All (λ row. All (λ s. s < length graph) row) graph

-- the facts at a node; the least facts for a node that does not exist
abbrev pub facts_at : {F : Type 0} → (bottom : F) → List F → (node : ℕ) → F
facts_at bottom facts node = get_or facts node bottom

-- the join of the facts at some nodes
abbrev pub joined : {F : Type 0} → (bottom : F) → (lub : F → F → F) → (facts : ℕ → F) → List ℕ → F
joined bottom lub facts [] = bottom
joined bottom lub facts (s ∷ ss) = lub (facts s) (joined bottom lub facts ss)

-- what comes back to a node: what the node computes from the join of its successors' facts
abbrev pub carried : {F : Type 0} → (bottom : F) → (lub : F → F → F) → (carries : ℕ → F → F) → List (List ℕ) → (facts : ℕ → F) → (node : ℕ) → F
carried bottom lub carries graph facts node = carries node (joined bottom lub facts (successors_of graph node))

-- a solution: what comes back to each node is below the node's own facts
abbrev pub Solves : {F : Type 0} → (below : F → F → Type 0) → (bottom : F) → (lub : F → F → F) → (carries : ℕ → F → F) → List (List ℕ) → (facts : ℕ → F) → Type 0
Solves below bottom lub carries graph facts = (node : ℕ) → node < length graph → below (carried bottom lub carries graph facts node) (facts node)

-- at every node the first facts are below the second
abbrev pub LiesUnder : {F : Type 0} → (below : F → F → Type 0) → (facts other : ℕ → F) → Type 0
LiesUnder below facts other = (node : ℕ) → below (facts node) (other node)
