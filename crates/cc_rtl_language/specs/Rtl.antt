-- RTL: the code of a function as a graph of labelled nodes over any number of pseudo-registers. This file has its syntax as data,
-- and what one node does; the run of a function is then that of every intermediate language (`Rattle.cc_simulation.specs.Run`).
use Rattle.std.specs.Prelude.{◌≡◌, ◌≢◌, ℕ, ◌<◌, ◌≤◌, ◌==◌, List, [], ◌∷◌, length, map, get_or, Contains, Option, Some, None, IsSome, if◌then◌else◌}
use Rattle.cc_words.specs.declared.operators.Unary as one
use Rattle.cc_words.specs.declared.operators.Binary as two
use Rattle.cc_words.specs.declared.operators.Width.{Width}
use Rattle.cc_words.specs.Operators.{apply_unary, apply_binary}
use Rattle.cc_simulation.specs.World.{World, Answer, element, stored, next_word, after_read, after_write}
use Rattle.cc_simulation.specs.Run.{Move as Moving, Goes, Calls, Returns, tried}

-- ---- syntax

-- a node: the register that gets a word, the registers that it reads, the label of the next node
pub data Node : Type 0 where
  Nop : (next : ℕ) → Node
  Const : (to word next : ℕ) → Node
  Move : (to from next : ℕ) → Node
  Unary : one.Unary → (to from next : ℕ) → Node
  Binary : two.Binary → (to left right next : ℕ) → Node
  Load : (width : Width) → (object to index next : ℕ) → Node
  Store : (width : Width) → (object index from next : ℕ) → Node
  -- a call's result goes into a register or is dropped
  Call : (function : ℕ) → (arguments : List ℕ) → (to : Option ℕ) → (next : ℕ) → Node
  Read : (to next : ℕ) → Node
  Write : (from next : ℕ) → Node
  Branch : (from if_nonzero if_zero : ℕ) → Node
  Return : (from : ℕ) → Node

pub record Labelled : Type 0 where
  pub label : ℕ
  pub node : Node

-- a function: how many parameters it has, the label of the node that it begins with, its nodes
pub record Rtl : Type 0 where
  pub parameters : ℕ
  pub entry : ℕ
  pub nodes : List Labelled

-- the node with this label
abbrev pub node_at : List Labelled → (label : ℕ) → Option Node
node_at [] label = None
node_at (n ∷ ns) label = if n.label == label then Some n.node else node_at ns label

-- ---- which functions exist

-- the nodes that may come next
abbrev pub successors : Node → List ℕ
successors (Nop next) = next ∷ []
successors (Const to word next) = next ∷ []
successors (Move to from next) = next ∷ []
successors (Unary operator to from next) = next ∷ []
successors (Binary operator to left right next) = next ∷ []
successors (Load width object to index next) = next ∷ []
successors (Store width object index from next) = next ∷ []
successors (Call function arguments to next) = next ∷ []
successors (Read to next) = next ∷ []
successors (Write from next) = next ∷ []
successors (Branch from if_nonzero if_zero) = if_nonzero ∷ if_zero ∷ []
successors (Return from) = []

-- the largest number of nodes that a function may have
abbrev pub most_nodes : ℕ
most_nodes = 4096

-- the labels ascend: each is below the first one after it
abbrev pub IsBelowFirst : (label : ℕ) → List Labelled → Type 0
IsBelowFirst label [] = Unit {0}
IsBelowFirst label (n ∷ ns) = label < n.label

abbrev pub Ascend : List Labelled → Type 0
Ascend [] = Unit {0}
Ascend (n ∷ ns) = IsBelowFirst n.label ns × Ascend ns

-- a function's labels ascend, each node leads to nodes, and the entry is a nop that no node leads to; the code begins at the node
-- after that nop
pub record IsRtl (rtl : Rtl) : Type 0 where
  pub few : length rtl.nodes ≤ most_nodes
  pub ascend : Ascend rtl.nodes
  pub begins : (next : ℕ) × (node_at rtl.nodes rtl.entry ≡ Some (Nop next))
  pub leads : (label : ℕ) (node : Node) (next : ℕ) → node_at rtl.nodes label ≡ Some node → Contains (successors node) next → IsSome (node_at rtl.nodes next) × (next ≢ rtl.entry)

-- ---- what one node does

-- the word of each register
abbrev pub Registers : Type 0
Registers = ℕ → ℕ

-- the state of a run: the label of the next node, the words of the registers, and what the functions share
pub record Configuration : Type 0 where
  pub label : ℕ
  pub registers : Registers
  pub world : World

abbrev pub at : (label : ℕ) → Registers → World → Configuration
at label registers world = record { label = label; registers = registers; world = world }

-- the registers after a word is put into one of them
abbrev pub put : (to word : ℕ) → Registers → Registers
put to word r x = if to == x then word else r x

-- the registers after a result is put into its register, if it has one
abbrev pub put_result : (to : Option ℕ) → (word : ℕ) → Registers → Registers
put_result None word r = r
put_result (Some to) word r = put to word r

-- the state after a call's answer
abbrev pub answered : (to : Option ℕ) → (next : ℕ) → Registers → Answer → Configuration
answered to next r a = at next (put_result to a.value r) a.world

-- the label that a branch leads to
abbrev pub branched : (word if_nonzero if_zero : ℕ) → ℕ
branched word if_nonzero if_zero = if word == 0 then if_zero else if_nonzero

-- what a node does: one move of the run
abbrev pub node_move : Node → Registers → World → Moving Configuration
node_move (Nop next) r h = Goes (at next r h)
node_move (Const to word next) r h = Goes (at next (put to word r) h)
node_move (Move to from next) r h = Goes (at next (put to (r from) r) h)
node_move (Unary operator to from next) r h = Goes (at next (put to (apply_unary operator (r from)) r) h)
node_move (Binary operator to left right next) r h = tried (apply_binary operator (r left) (r right)) (λ word. Goes (at next (put to word r) h))
node_move (Load width object to index next) r h = tried (element h width object (r index)) (λ word. Goes (at next (put to word r) h))
node_move (Store width object index from next) r h = tried (stored h width object (r index) (r from)) (λ changed. Goes (at next r changed))
node_move (Call function arguments to next) r h = Calls (record { function = function; arguments = map r arguments; world = h }) (answered to next r)
node_move (Read to next) r h = Goes (at next (put to (next_word h) r) (after_read h))
node_move (Write from next) r h = Goes (at next r (after_write (r from) h))
node_move (Branch from if_nonzero if_zero) r h = Goes (at (branched (r from) if_nonzero if_zero) r h)
node_move (Return from) r h = Returns (record { value = r from; world = h })

-- the move at a label; if no node is there, the run goes wrong
abbrev pub rtl_move : Rtl → Configuration → Moving Configuration
rtl_move rtl c = tried (node_at rtl.nodes c.label) (λ node. node_move node c.registers c.world)

-- the output so far
abbrev pub rtl_output : Configuration → List ℕ
rtl_output c = c.world.output

-- the beginning of a function's run: register i holds argument i, the others 0
abbrev pub rtl_start : Rtl → (arguments : List ℕ) → World → Configuration
rtl_start rtl arguments world = at rtl.entry (λ r. get_or arguments r 0) world
