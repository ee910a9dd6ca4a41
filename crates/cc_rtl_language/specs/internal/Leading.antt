-- That each node leads to nodes, in terms of lists.
use Rattle.std.specs.Prelude.{List, All, IsSome}
use Rattle.cc_rtl_language.specs.Rtl.{Labelled, node_at, successors}

-- each of these nodes leads to nodes
abbrev pub LeadInside : (all nodes : List Labelled) → Type 0
LeadInside all nodes = All (λ n. All (λ s. IsSome (node_at all s)) (successors n.node)) nodes
