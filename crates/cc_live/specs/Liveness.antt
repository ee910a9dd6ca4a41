-- The least live sets of a function; strongly live sets, in which what only dead nodes read is not live; and a function without dead nodes.
use Rattle.std.specs.Prelude.{◌≡◌, ◌≢◌, ℕ, List, Contains, Bool, false, IsTrue, Some}
use Rattle.cc_rtl_language.specs.Rtl.{Rtl, Labelled, Node, node_at}
use Rattle.cc_rtl_language.specs.Live.{Sets, AreLive, reads, result, live_behind, is_dead, with_nops}

-- at each label the first set lies within the second
abbrev pub LieWithin : (live other : Sets) → Type 0
LieWithin live other = (label r : ℕ) → IsTrue (live label r) → IsTrue (other label r)

-- live sets that lie within all others
pub record AreLeastLive (nodes : List Labelled) (live : Sets) : Type 0 where
  pub are_live : AreLive nodes live
  pub least : (other : Sets) → AreLive nodes other → LieWithin live other

-- ---- strongly live (Giegerich, Moencke and Wilhelm, "Invariance of approximate semantics with respect to program transformations", 1981)

-- as for live sets, but a dead node needs nothing of what it reads
pub record CarriesStrongly (live : Sets) (node : Node) (own : ℕ → Bool) : Type 0 where
  pub needed : is_dead live node ≡ false → (r : ℕ) → Contains (reads node) r → IsTrue (own r)
  pub inherited : (r : ℕ) → IsTrue (live_behind live node r) → result node ≢ Some r → IsTrue (own r)

abbrev pub AreStronglyLive : List Labelled → Sets → Type 0
AreStronglyLive nodes live = (label : ℕ) (node : Node) → node_at nodes label ≡ Some node → CarriesStrongly live node (live label)

pub record AreLeastStronglyLive (nodes : List Labelled) (live : Sets) : Type 0 where
  pub are_live : AreStronglyLive nodes live
  pub least : (other : Sets) → AreStronglyLive nodes other → LieWithin live other

-- ---- dead nodes

-- the function with nops in place of its dead nodes
abbrev pub without_dead : Sets → Rtl → Rtl
without_dead live rtl = record rtl { nodes = with_nops (λ label node. is_dead live node) rtl.nodes }

-- What is left of a function without all the nodes that nothing needs: those nodes that are dead by its least strongly live sets are nops,
-- and only those. These sets are then the least live sets of what is left.
pub record IsWithoutFaint (old new : Rtl) : Type 0 where
  pub live : Sets
  pub strongly : AreLeastStronglyLive old.nodes live
  pub is : new ≡ without_dead live old
  pub least : AreLeastLive new.nodes live

-- no node is dead, whatever the live sets
abbrev pub NothingIsDead : Rtl → Type 0
NothingIsDead rtl = (live : Sets) → AreLive rtl.nodes live → (label : ℕ) (node : Node) → node_at rtl.nodes label ≡ Some node → is_dead live node ≡ false
