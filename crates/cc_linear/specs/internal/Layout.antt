-- The list that lays out blocks in an order.
use Rattle.std.specs.Prelude.{◌≡◌, ℕ, ◌≤◌, ◌⊎◌, List, [], ◌∷◌, Bool, true, false, if◌then◌else◌, ◌==◌, ◌&&◌, Option, Some, None}
use Rattle.std.specs.List.{AllPairs, Contains}
use Rattle.cc_ltl.specs.declared.operation.Move.{Move}
use Rattle.cc_ltl.specs.declared.operation.Operation.{Operation}
use Rattle.cc_ltl.specs.declared.operation.Operation.TheVariants.{Nop, Branch, Return}
use Rattle.cc_ltl.specs.declared.block.Block.{Block}
use Rattle.cc_ltl.specs.Ltl.{Ltl, block_at}
use Rattle.cc_linear_language.specs.declared.item.LinearItem.{LinearItem}
use Rattle.cc_linear_language.specs.declared.item.LinearItem.TheVariants as item
use Rattle.cc_linear_language.specs.declared.item.LinearItem.TheVariants.{Label, Jump, IfNonzero, IfZero}
use Rattle.cc_linear.specs.internal.Lays.{moves_then, operation_then, next, IsPassed}

abbrev pub is_next : ℕ → List ℕ → Bool
is_next e [] = false
is_next e (x ∷ xs) = x == e

-- the code goes on to the label: it falls through if the label comes next, and jumps if not
abbrev pub leads : ℕ → List ℕ → List LinearItem → List LinearItem
leads e order items = if is_next e order then items else Jump e ∷ items

abbrev pub has_none : List Move → Bool
has_none [] = true
has_none (m ∷ ms) = false

abbrev pub is_nop : Operation → Bool
is_nop (Nop n) = true
is_nop _ = false

abbrev pub is_empty : Block → Bool
is_empty block = is_nop block.operation && (has_none block.before && has_none block.after)

-- an empty block that was not passed over is an endless cycle, so its jump is never left out
abbrev pub tail_of : (ℕ → ℕ) → Block → List ℕ → List LinearItem → List LinearItem
tail_of end block order items = if is_empty block then Jump (end (next block.operation)) ∷ items else leads (end (next block.operation)) order items

-- a branch falls through to whichever successor comes next
abbrev pub branch_then : (ℕ → ℕ) → (from taken other : ℕ) → List ℕ → List LinearItem → List LinearItem
branch_then end from taken other order items = if is_next (end taken) order then IfZero from (end other) ∷ items else IfNonzero from (end taken) ∷ leads (end other) order items

abbrev pub block_then : (ℕ → ℕ) → Block → Operation → List ℕ → List LinearItem → List LinearItem
block_then end block (Branch from taken other) order items = moves_then block.before (branch_then end from taken other order items)
block_then end block Return order items = moves_then block.before (item.Return ∷ items)
block_then end block op order items = moves_then block.before (operation_then block.operation (moves_then block.after (tail_of end block order items)))

abbrev pub laid_at : (ℕ → ℕ) → Option Block → List ℕ → List LinearItem → List LinearItem
laid_at end None order items = items
laid_at end (Some block) order items = block_then end block block.operation order items

abbrev pub laid : List Block → (ℕ → ℕ) → List ℕ → List LinearItem
laid blocks end [] = []
laid blocks end (l ∷ ls) = Label l ∷ laid_at end (block_at blocks l) ls (laid blocks end ls)

abbrev pub linear_code : Ltl → (ℕ → ℕ) → List ℕ → List LinearItem
linear_code ltl end order = leads (end ltl.entry) order (laid ltl.blocks end order)

-- the ends of a block's successors are in the order
abbrev pub HasSuccessors : (ℕ → ℕ) → List ℕ → Operation → Type 0
HasSuccessors end order (Branch from taken other) = Contains order (end taken) × Contains order (end other)
HasSuccessors end order Return = Unit {0}
HasSuccessors end order op = Contains order (end (next op))

-- an order of labels: each occurs only once, and all labels that the entry reaches are in it
pub record IsOrder (ltl : Ltl) (end : ℕ → ℕ) (order : List ℕ) : Type 0 where
  pub distinct : AllPairs (λ a b. a ≡ b → ⊥) order
  pub entry : Contains order (end ltl.entry)
  pub closed : (l : ℕ) (block : Block) → Contains order l → block_at ltl.blocks l ≡ Some block → HasSuccessors end order block.operation

-- where the chain of empty blocks from each label ends, and how far that is
pub record AreEnds (ltl : Ltl) (end far : ℕ → ℕ) (most : ℕ) : Type 0 where
  pub low : (l : ℕ) → far l ≤ most
  pub each : (l : ℕ) (block : Block) → block_at ltl.blocks l ≡ Some block → IsPassed end far l block ⊎ (end l ≡ l)

-- what LTL's type keeps: no moves after a branch
abbrev pub NoneBehind : Block → Operation → Type 0
NoneBehind block (Branch from taken other) = block.after ≡ []
NoneBehind block op = Unit {0}

abbrev pub BranchesAreLast : Ltl → Type 0
BranchesAreLast ltl = (l : ℕ) (block : Block) → block_at ltl.blocks l ≡ Some block → NoneBehind block block.operation
