-- Live sets, and nodes that are not needed. A register is live at a label if the word that it holds there may still be read. A
-- node that only puts a word into a register that is not live after it may as well do nothing.
use Rattle.std.specs.Prelude.{◌≡◌, ◌≢◌, ℕ, List, [], ◌∷◌, Contains, Bool, true, false, IsTrue, ◌==◌, ◌||◌, not, if◌then◌else◌, Option, Some, None}
use Rattle.cc_rtl_language.specs.Rtl.{Rtl, Labelled, Node, Nop, Const, Move, Unary, Binary, Load, Store, Call, Read, Write, Branch, Return, node_at, successors}

-- ---- what a node reads and what it sets

-- the registers that a node reads
abbrev pub reads : Node → List ℕ
reads (Nop next) = []
reads (Const to word next) = []
reads (Move to from next) = from ∷ []
reads (Unary operator to from next) = from ∷ []
reads (Binary operator to left right next) = left ∷ right ∷ []
reads (Load width object to index next) = index ∷ []
reads (Store width object index from next) = index ∷ from ∷ []
reads (Call function arguments to next) = arguments
reads (Read to next) = []
reads (Write from next) = from ∷ []
reads (Branch from _ _) = from ∷ []
reads (Return from) = from ∷ []

-- the register of a pure node, one that only puts a word into this register, unless the node goes wrong
abbrev pub pure_result : Node → Option ℕ
pure_result (Const to word next) = Some to
pure_result (Move to from next) = Some to
pure_result (Unary operator to from next) = Some to
pure_result (Binary operator to left right next) = Some to
pure_result (Load width object to index next) = Some to
pure_result node = None

-- the register that gets a node's result
abbrev pub result : Node → Option ℕ
result (Call function arguments to next) = to
result (Read to next) = Some to
result node = pure_result node

-- ---- live sets

-- a set of registers for each label: whether it holds a register
abbrev pub Sets : Type 0
Sets = (label register : ℕ) → Bool

-- whether the set of one of these labels has the register
abbrev pub in_some : Sets → (labels : List ℕ) → (register : ℕ) → Bool
in_some live [] r = false
in_some live (s ∷ ss) r = live s r || in_some live ss r

abbrev pub live_behind : Sets → Node → (register : ℕ) → Bool
live_behind live node r = in_some live (successors node) r

-- a node's own set has what the node reads and, except for its result, what its successors' sets have
pub record Carries (live : Sets) (node : Node) (own : ℕ → Bool) : Type 0 where
  pub needed : (r : ℕ) → Contains (reads node) r → IsTrue (own r)
  pub inherited : (r : ℕ) → IsTrue (live_behind live node r) → result node ≢ Some r → IsTrue (own r)

-- each node and the set for its label satisfy `Carries`
abbrev pub AreLive : List Labelled → Sets → Type 0
AreLive nodes live = (label : ℕ) (node : Node) → node_at nodes label ≡ Some node → Carries live node (live label)

-- whether a node is pure and no successor's set has its result
abbrev pub is_unread : Sets → Node → (result : Option ℕ) → Bool
is_unread live node None = false
is_unread live node (Some to) = not (live_behind live node to)

abbrev pub is_dead : Sets → Node → Bool
is_dead live node = is_unread live node (pure_result node)

-- ---- nodes that become nops

-- a pure node turned into a nop
abbrev pub as_nop : Node → Node
as_nop (Const to word next) = Nop next
as_nop (Move to from next) = Nop next
as_nop (Unary operator to from next) = Nop next
as_nop (Binary operator to left right next) = Nop next
as_nop (Load width object to index next) = Nop next
as_nop node = node

-- Whether a node is a nop, which is pure too and has no result.
abbrev pub is_nop : Node → Bool
is_nop (Nop next) = true
is_nop node = false

-- the nodes that `which` selects, turned into nops
abbrev pub with_nops : (which : (label : ℕ) → Node → Bool) → List Labelled → List Labelled
with_nops which [] = []
with_nops which (n ∷ ns) = record { label = n.label; node = if which n.label n.node then as_nop n.node else n.node } ∷ with_nops which ns

-- These nodes may become nops: some live sets of the code with the nops show that each of them is dead. All are considered
-- together, so that nodes that only read one another may become nops. Live sets of the code as it is will do too, because a nop
-- needs no more than its node does.
pub record MayBecomeNops (nodes : List Labelled) (which : (label : ℕ) → Node → Bool) : Type 0 where
  pub live : Sets
  pub are_live : AreLive (with_nops which nodes) live
  pub dead : (label : ℕ) (node : Node) → node_at nodes label ≡ Some node → IsTrue (which label node) → IsTrue (is_nop node || is_dead live node)

-- whether a label is in a list
abbrev pub among : List ℕ → (label : ℕ) → Bool
among [] label = false
among (l ∷ ls) label = l == label || among ls label

-- the function, with nops in place of the nodes with these labels
abbrev pub without : (labels : List ℕ) → Rtl → Rtl
without labels rtl = record rtl { nodes = with_nops (λ label node. among labels label) rtl.nodes }

abbrev pub MayGo : (labels : List ℕ) → Rtl → Type 0
MayGo labels rtl = MayBecomeNops rtl.nodes (λ label node. among labels label)
