-- Facts ordered by how much they say. The same facts may have several forms, so the order is a preorder, and a join is known only
-- up to equivalence.

-- two facts are equivalent if each is below the other: they say the same
abbrev pub Equivalent : {F : Type 0} → (below : F → F → Type 0) → F → F → Type 0
Equivalent below a b = below a b × below b a

-- an order in which `bottom` is below everything, and `lub` is a least upper bound
pub record IsLattice {F : Type 0} (below : F → F → Type 0) (bottom : F) (lub : F → F → F) : Type 0 where
  pub reflexive : (x : F) → below x x
  pub transitive : (x y z : F) → below x y → below y z → below x z
  pub least : (x : F) → below bottom x
  pub first : (x y : F) → below x (lub x y)
  pub second : (x y : F) → below y (lub x y)
  pub within : (x y z : F) → below x z → below y z → below (lub x y) z
