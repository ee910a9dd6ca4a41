-- When a list of items lays out a function's blocks, in whatever order.
use Rattle.std.specs.Prelude.{◌≡◌, ℕ, ◌<◌, ◌≤◌, ◌⊎◌, List, [], ◌∷◌, Some}
use Rattle.cc_ltl.specs.declared.operation.Move.{Move}
use Rattle.cc_ltl.specs.declared.operation.Operation.{Operation}
use Rattle.cc_ltl.specs.declared.operation.Operation.TheVariants.{Nop, Const, Unary, Binary, Load, Store, Call, Read, Write, Branch, Return}
use Rattle.cc_ltl.specs.declared.block.Block.{Block}
use Rattle.cc_ltl.specs.Ltl.{Ltl, block_at}
use Rattle.cc_linear_language.specs.declared.item.LinearItem.{LinearItem}
use Rattle.cc_linear_language.specs.declared.item.LinearItem.TheVariants as item
use Rattle.cc_linear_language.specs.declared.item.LinearItem.TheVariants.{Label, Jump, IfNonzero, IfZero, Copy}
use Rattle.cc_linear_language.specs.Linear.{place}

abbrev pub moves_then : List Move → List LinearItem → List LinearItem
moves_then [] items = items
moves_then (m ∷ ms) items = Copy m ∷ moves_then ms items

-- an operation with one successor, without the successor
abbrev pub operation_then : Operation → List LinearItem → List LinearItem
operation_then (Nop n) items = items
operation_then (Const to word n) items = item.Const to word ∷ items
operation_then (Unary operator to from n) items = item.Unary operator to from ∷ items
operation_then (Binary operator to left right n) items = item.Binary operator to left right ∷ items
operation_then (Load width object to index n) items = item.Load width object to index ∷ items
operation_then (Store width object index from n) items = item.Store width object index from ∷ items
operation_then (Call function n) items = item.Call function ∷ items
operation_then (Read n) items = item.Read ∷ items
operation_then (Write n) items = item.Write ∷ items
operation_then (Branch from taken other) items = items
operation_then Return items = item.Return ∷ items

-- the list goes on at this label: the label comes next, or a jump to it does
abbrev pub GoesOnAt : List LinearItem → List LinearItem → ℕ → Type 0
GoesOnAt code items l = (place code l ≡ items) ⊎ ((behind : List LinearItem) × (items ≡ Jump l ∷ behind))

-- the label is in the list
abbrev pub StandsIn : List LinearItem → ℕ → Type 0
StandsIn code l = (behind : List LinearItem) × (place code l ≡ Label l ∷ behind)

abbrev pub next : Operation → ℕ
next (Nop n) = n
next (Const to word n) = n
next (Unary operator to from n) = n
next (Binary operator to left right n) = n
next (Load width object to index n) = n
next (Store width object index from n) = n
next (Call function n) = n
next (Read n) = n
next (Write n) = n
next (Branch from taken other) = taken
next Return = 0

abbrev pub IsNop : Operation → Type 0
IsNop (Nop n) = Unit {0}
IsNop _ = ⊥

-- A block with one successor is at its label: its moves and operation come first, and then the list goes on at its successor's end. An
-- empty nop is in the list only as a jump, so that an endless cycle of nops is not lost.
pub record Straight (code : List LinearItem) (end : ℕ → ℕ) (l : ℕ) (block : Block) : Type 0 where
  pub tail : List LinearItem
  pub items : place code l ≡ Label l ∷ moves_then block.before (operation_then block.operation (moves_then block.after tail))
  pub on : GoesOnAt code tail (end (next block.operation))
  pub stands : StandsIn code (end (next block.operation))
  pub jumps : IsNop block.operation → block.before ≡ [] → block.after ≡ [] → (behind : List LinearItem) × (tail ≡ Jump (end (next block.operation)) ∷ behind)

-- a branch that jumps if the register is nonzero, or if it is zero; the other successor follows
abbrev pub BranchesTo : List LinearItem → (ℕ → ℕ) → ℕ → List Move → (from taken other : ℕ) → List LinearItem → Type 0
BranchesTo code end l before from taken other tail =
    ((place code l ≡ Label l ∷ moves_then before (IfNonzero from (end taken) ∷ tail)) × GoesOnAt code tail (end other))
    ⊎ ((place code l ≡ Label l ∷ moves_then before (IfZero from (end other) ∷ tail)) × GoesOnAt code tail (end taken))

pub record Branches (code : List LinearItem) (end : ℕ → ℕ) (l : ℕ) (block : Block) (from taken other : ℕ) : Type 0 where
  pub tail : List LinearItem
  pub branches : BranchesTo code end l block.before from taken other tail
  pub after : block.after ≡ []
  pub taken_stands : StandsIn code (end taken)
  pub other_stands : StandsIn code (end other)

pub record Leaves (code : List LinearItem) (l : ℕ) (block : Block) : Type 0 where
  pub tail : List LinearItem
  pub items : place code l ≡ Label l ∷ moves_then block.before (item.Return ∷ tail)

abbrev pub Stands : List LinearItem → (ℕ → ℕ) → ℕ → Block → Operation → Type 0
Stands code end l block (Branch from taken other) = Branches code end l block from taken other
Stands code end l block Return = Leaves code l block
Stands code end l block _ = Straight code end l block

-- n has the same end as l, and is nearer to that end
abbrev pub Nearer : (end far : ℕ → ℕ) → ℕ → ℕ → Type 0
Nearer end far l n = (end n ≡ end l) × (far n < far l)

-- an empty block may be passed over; so may a branch, if the chains from both successors end at the same label
abbrev pub Passes : (end far : ℕ → ℕ) → ℕ → Operation → Type 0
Passes end far l (Nop n) = Nearer end far l n
Passes end far l (Branch from taken other) = Nearer end far l taken × Nearer end far l other
Passes end far l _ = ⊥

pub record IsPassed (end far : ℕ → ℕ) (l : ℕ) (block : Block) : Type 0 where
  pub before : block.before ≡ []
  pub after : block.after ≡ []
  pub passes : Passes end far l block.operation

-- `code` lays out the blocks; `end` is the label at which each label's chain of empty blocks ends, and `far` is how far away it is
pub record Lays (ltl : Ltl) (code : List LinearItem) (end far : ℕ → ℕ) (most : ℕ) : Type 0 where
  pub low : (l : ℕ) → far l ≤ most
  pub entry : GoesOnAt code code (end ltl.entry)
  pub entry_stands : StandsIn code (end ltl.entry)
  pub each : (l : ℕ) (block : Block) → block_at ltl.blocks l ≡ Some block → StandsIn code (end l) → IsPassed end far l block ⊎ ((end l ≡ l) × Stands code end l block block.operation)
