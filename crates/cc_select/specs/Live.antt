-- Which registers are live: those that may be read on some path before they are written. Each call counts as reading x10 to x17. A
-- table has the registers that are live at each label.
use Rattle.std.specs.Prelude.{ℕ, Bool, false, not, ◌&&◌, ◌||◌, ◌==◌, nat_le, List, [], ◌∷◌}
use Rattle.cc_simulation.specs.Unknown.{survives}
use Rattle.cc_ltl.specs.declared.operation.Move.{Move}
use Rattle.cc_ltl.specs.declared.operation.Move.TheVariants.{Between, Reload, Spill}
use Rattle.cc_linear_language.specs.declared.item.LinearItem.{LinearItem}
use Rattle.cc_linear_language.specs.declared.item.LinearItem.TheVariants.{Label, Jump, IfNonzero, IfZero, Copy, Const, Unary, Binary, Load, Store, Call, Read, Write, Return}
use Rattle.cc_select.specs.declared.step.Step.{Step}
use Rattle.cc_select.specs.declared.step.Step.TheVariants.{One, Immediate, LoadAt, StoreAt, LoadNear, StoreNear, Branch, BranchImmediate}

-- a set of registers
abbrev pub Registers : Type 0
Registers = ℕ → Bool

abbrev pub nothing : Registers
nothing r = false

abbrev pub with : (register : ℕ) → Registers → Registers
with a s r = (a == r) || s r

abbrev pub without : (register : ℕ) → Registers → Registers
without a s r = not (a == r) && s r

abbrev pub either : (s t : Registers) → Registers
either s t r = s r || t r

-- the registers that are live before a move, if these are live after it
abbrev pub live_move : Move → Registers → Registers
live_move (Between to from) s = with from (without to s)
live_move (Reload to slot) s = without to s
live_move (Spill slot from) s = with from s

-- the registers in which arguments may be passed: x10 to x17
abbrev pub is_argument : (register : ℕ) → Bool
is_argument r = nat_le 10 r && nat_le r 17

-- the registers that are live before an item of Linear, if these are live after it
abbrev pub live_item : LinearItem → (at_label : ℕ → Registers) → Registers → Registers
live_item (Label label) at s = s
live_item (Jump to) at s = at to
live_item (IfNonzero from to) at s = with from (either (at to) s)
live_item (IfZero from to) at s = with from (either (at to) s)
live_item (Copy m) at s = live_move m s
live_item (Const to word) at s = without to s
live_item (Unary operator to from) at s = with from (without to s)
live_item (Binary operator to left right) at s = with left (with right (without to s))
live_item (Load width object to index) at s = with index (without to s)
live_item (Store width object index from) at s = with index (with from s)
live_item (Call function) at s = λ r. is_argument r || (survives r && s r)
live_item Read at s = without 10 (without 17 s)
live_item Write at s = with 10 (without 17 s)
live_item Return at s = λ r. 10 == r

-- the registers that are live before a step, if these are live after it
abbrev pub live_before : Step → (at_label : ℕ → Registers) → Registers → Registers
live_before (One item) at s = live_item item at s
live_before (Immediate operator to from word) at s = with from (without to s)
live_before (LoadAt width object to number) at s = without to s
live_before (StoreAt width object number from) at s = with from s
live_before (LoadNear width object to index word) at s = with index (without to s)
live_before (StoreNear width object index word from) at s = with index (with from s)
live_before (Branch operator nonzero left right to) at s = with left (with right (either (at to) s))
live_before (BranchImmediate operator nonzero from word to) at s = with from (either (at to) s)

-- the registers that are live before these steps
abbrev pub live : (at_label : ℕ → Registers) → List Step → Registers
live at [] = nothing
live at (step ∷ steps) = live_before step at (live at steps)
