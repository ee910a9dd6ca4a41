-- What emission requires of a frame and of steps: the frame saves what is written, and steps name only what exists.
use Rattle.std.specs.Prelude.{◌≡◌, ℕ, ◌+◌, ◌<◌, ◌≤◌, ◌⊎◌, true, List, [], ◌∷◌, length}
use Rattle.std.specs.List.{AllByRecursion}
use Rattle.cc_simulation.specs.Meaning.{Meaning}
use Rattle.cc_ltl.specs.declared.operation.Move.{Move}
use Rattle.cc_ltl.specs.declared.operation.Move.TheVariants.{Between, Reload, Spill}
use Rattle.cc_ltl.specs.Registers.{IsAllocatable}
use Rattle.cc_ltl.specs.Ltl.{IsWord}
use Rattle.cc_linear_language.specs.declared.item.LinearItem.{LinearItem}
use Rattle.cc_linear_language.specs.declared.item.LinearItem.TheVariants.{Label, Jump, IfNonzero, IfZero, Copy, Const, Unary, Binary, Load, Store, Call, Read, Write, Return}
use Rattle.cc_select.specs.declared.step.Step.{Step}
use Rattle.cc_select.specs.declared.step.Step.TheVariants.{One, Immediate, LoadAt, StoreAt, LoadNear, StoreNear, Branch, BranchImmediate}
use Rattle.cc_select.specs.Immediates.{has_word, is_comparison}
use Rattle.cc_emit.specs.Contract.{IsKept}
use Rattle.cc_emit.specs.Frames.{Frame}

abbrev pub Member : ℕ → List ℕ → Type 0
Member r [] = ⊥
Member r (x ∷ xs) = (r ≡ x) ⊎ Member r xs

-- a register that a frame may save: x1, x8, x9, x18 to x27
abbrev pub IsSavable : ℕ → Type 0
IsSavable r = (r ≡ 1) ⊎ IsKept r

abbrev pub AreSavable : List ℕ → Type 0
AreSavable [] = Unit {0}
AreSavable (r ∷ rs) = IsSavable r × AreSavable rs

pub record IsFrame (f : Frame) : Type 0 where
  pub savable : AreSavable f.saved
  pub small : f.slots + length f.saved ≤ 508

-- a register that is written is saved, or need not be kept
abbrev pub IsTarget : Frame → ℕ → Type 0
IsTarget f r = IsAllocatable r × (IsKept r → Member r f.saved)

abbrev pub IsFineMove : Frame → Move → Type 0
IsFineMove f (Between to from) = IsTarget f to × IsAllocatable from
IsFineMove f (Reload to slot) = IsTarget f to × (slot < f.slots)
IsFineMove f (Spill slot from) = (slot < f.slots) × IsAllocatable from

-- an item is fine: in particular, a call is of a function with at most eight parameters, in a frame that saves x1
abbrev pub IsFine : Meaning → Frame → LinearItem → Type 0
IsFine meaning f (Label label) = Unit {0}
IsFine meaning f (Jump to) = Unit {0}
IsFine meaning f (IfNonzero from to) = IsAllocatable from
IsFine meaning f (IfZero from to) = IsAllocatable from
IsFine meaning f (Copy m) = IsFineMove f m
IsFine meaning f (Const to word) = IsTarget f to × IsWord word
IsFine meaning f (Unary operator to from) = IsTarget f to × IsAllocatable from
IsFine meaning f (Binary operator to left right) = IsTarget f to × IsAllocatable left × IsAllocatable right
IsFine meaning f (Load width object to index) = IsTarget f to × IsAllocatable index
IsFine meaning f (Store width object index from) = IsAllocatable index × IsAllocatable from
IsFine meaning f (Call function) = (function < meaning.functions) × (meaning.arity function ≤ 8) × Member 1 f.saved
IsFine meaning f Read = Unit {0}
IsFine meaning f Write = Unit {0}
IsFine meaning f Return = Unit {0}

-- a step is fine: its item is, and the instructions of its operator have room for its word
abbrev pub IsFineStep : Meaning → Frame → Step → Type 0
IsFineStep meaning f (One item) = IsFine meaning f item
IsFineStep meaning f (Immediate operator to from word) = IsTarget f to × IsAllocatable from × IsWord word × (has_word operator word ≡ true)
IsFineStep meaning f (LoadAt width object to number) = IsTarget f to
IsFineStep meaning f (StoreAt width object number from) = IsAllocatable from
IsFineStep meaning f (LoadNear width object to index word) = IsTarget f to × IsAllocatable index
IsFineStep meaning f (StoreNear width object index word from) = IsAllocatable index × IsAllocatable from
IsFineStep meaning f (Branch operator nonzero left right to) = (is_comparison operator ≡ true) × IsAllocatable left × IsAllocatable right
IsFineStep meaning f (BranchImmediate operator nonzero from word to) = IsAllocatable from × IsWord word × (has_word operator word ≡ true)

abbrev pub AreFine : Meaning → Frame → List Step → Type 0
AreFine meaning f steps = AllByRecursion (IsFineStep meaning f) steps
