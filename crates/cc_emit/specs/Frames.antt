-- The frame of a function, from x2 upward: its slots, x1 if the function calls others, and those of x8, x9, x18 to x27 that it writes.
use Rattle.std.specs.Prelude.{ℕ, ◌+◌, ◌*◌, Bool, true, false, ◌||◌, if◌then◌else◌, ◌==◌, List, [], ◌∷◌, length}
use Rattle.cc_ltl.specs.declared.location.Location.TheVariants.{Register}
use Rattle.cc_ltl.specs.Ltl.{target, same_location}
use Rattle.cc_linear_language.specs.declared.item.LinearItem.{LinearItem}
use Rattle.cc_linear_language.specs.declared.item.LinearItem.TheVariants.{Copy, Const, Unary, Binary, Load, Call}
use Rattle.cc_select.specs.declared.step.Step.{Step}
use Rattle.cc_select.specs.declared.step.Step.TheVariants.{One, Immediate, LoadAt, LoadNear}

-- slot i lies at x2 + 4 * i, and after the slots come the registers of `saved`, in order; `sets_pointer` says whether x3 is set
pub record Frame : Type 0 where
  pub sets_pointer : Bool
  pub slots : ℕ
  pub saved : List ℕ

-- the size of a frame in bytes
abbrev pub frame_size : Frame → ℕ
frame_size f = 4 * (f.slots + length f.saved)

-- the registers that a function leaves as it found them
abbrev pub kept_registers : List ℕ
kept_registers = 8 ∷ 9 ∷ 18 ∷ 19 ∷ 20 ∷ 21 ∷ 22 ∷ 23 ∷ 24 ∷ 25 ∷ 26 ∷ 27 ∷ []

-- whether an item of Linear writes a register; a call that destroys the register does not count
abbrev pub item_writes : (register : ℕ) → LinearItem → Bool
item_writes r (Copy m) = same_location (target m) (Register r)
item_writes r (Const to word) = to == r
item_writes r (Unary operator to from) = to == r
item_writes r (Binary operator to left right) = to == r
item_writes r (Load width object to index) = to == r
item_writes r item = false

-- whether a step writes a register; a call that destroys the register does not count
abbrev pub writes : (register : ℕ) → Step → Bool
writes r (One item) = item_writes r item
writes r (Immediate operator to from word) = to == r
writes r (LoadAt width object to number) = to == r
writes r (LoadNear width object to index word) = to == r
writes r step = false

abbrev pub is_written : List Step → (register : ℕ) → Bool
is_written [] r = false
is_written (step ∷ steps) r = writes r step || is_written steps r

-- those registers of a list that the steps write
abbrev pub written : List Step → List ℕ → List ℕ
written steps [] = []
written steps (r ∷ rs) = if is_written steps r then r ∷ written steps rs else written steps rs

abbrev pub is_call : Step → Bool
is_call (One (Call function)) = true
is_call step = false

abbrev pub calls : List Step → Bool
calls [] = false
calls (step ∷ steps) = is_call step || calls steps

-- the registers that are saved
abbrev pub saved_by : List Step → List ℕ
saved_by steps = if calls steps then 1 ∷ written steps kept_registers else written steps kept_registers

abbrev pub frame_of : (sets_pointer : Bool) → (slots : ℕ) → List Step → Frame
frame_of sets_pointer slots steps = record { sets_pointer = sets_pointer; slots = slots; saved = saved_by steps }
