-- The edges of a graph, kept in both directions.
use Rattle.std.specs.Prelude.{◌≡◌, ℕ, ◌<◌, List, All, Contains, length}
use Rattle.cc_flow.specs.Flow.{IsGraph, successors_of}

-- each direction has one row for each node; each end of an edge is a node; a node that leads to another is in the other's row of
-- predecessors
pub record AreEdges (successors predecessors : List (List ℕ)) : Type 0 where
  pub rows : length predecessors ≡ length successors
  pub graph : IsGraph successors
  pub nodes : All (λ row. All (λ p. p < length successors) row) predecessors
  pub leads : (p s : ℕ) → Contains (successors_of successors p) s → Contains (successors_of predecessors s) p
