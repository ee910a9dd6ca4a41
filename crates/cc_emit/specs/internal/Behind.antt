-- The places of labels, counted from the end: the tables are filled from the back, since the distance of a place from the end is known as
-- soon as everything after it is known.
use Rattle.std.specs.Prelude.{◌≡◌, ℕ, ◌+◌, ◌-◌, ◌<◌, Bool, false, ◌&&◌, if◌then◌else◌, nat_le, nat_lt, Option, Some, None, List, [], ◌∷◌, length, get_or}
use Rattle.cc_linear_language.specs.declared.item.LinearItem.TheVariants.{Jump, IfNonzero, IfZero}
use Rattle.cc_select.specs.declared.step.Step.{Step}
use Rattle.cc_select.specs.declared.step.Step.TheVariants.{One, Branch, BranchImmediate}
use Rattle.cc_emit.specs.declared.addressed.Addressed.{Addressed}
use Rattle.cc_emit.specs.Frames.{Frame}
use Rattle.cc_emit.specs.Emission.{size, long_size, is_close, is_label, label_of_step, prologue_size}

-- whether a branch at `from` reaches `to`, from -4096 to 4092 bytes away
abbrev pub reaches : (from to : ℕ) → Bool
reaches from to = nat_le from (to + 1024) && nat_lt to (from + 1024)

-- the number of items of these steps with each branch in its long form
abbrev pub long_behind : Frame → List Addressed → ℕ
long_behind f [] = 0
long_behind f (s ∷ steps) = long_size f s + long_behind f steps

-- whether a branch is near, if there are `here` items from it to the end; `first` has, for each label that it knows, the number of items
-- from the label to the end
abbrev pub near_behind : (first : List ℕ) → (here label : ℕ) → Bool
near_behind first here label = if nat_lt label (length first) then is_close (get_or first label 0) here else false

-- the number of items of these steps
abbrev pub behind : Frame → (first : List ℕ) → List Addressed → ℕ
behind f first [] = 0
behind f first (s ∷ steps) = size f (near_behind first (long_behind f (s ∷ steps))) s + behind f first steps

-- the number of items from a label to the end
abbrev pub label_behind : Frame → (first : List ℕ) → List Addressed → (label : ℕ) → ℕ
label_behind f first [] label = 0
label_behind f first (s ∷ steps) label = if is_label label s then behind f first (s ∷ steps) else label_behind f first steps label

-- the label, if the step is a label
abbrev pub label_of : Addressed → Option ℕ
label_of s = label_of_step s.step

-- the label to which a step branches
abbrev pub branched_to_step : Step → Option ℕ
branched_to_step (One (IfNonzero from to)) = Some to
branched_to_step (One (IfZero from to)) = Some to
branched_to_step (Branch operator nonzero left right to) = Some to
branched_to_step (BranchImmediate operator nonzero from word to) = Some to
branched_to_step step = None

abbrev pub branched_to : Addressed → Option ℕ
branched_to s = branched_to_step s.step

-- `table` has, for each label below `count`, the number of items from the label to the end
pub record IsTable (f : Frame) (first : List ℕ) (steps : List Addressed) (count : ℕ) (table : List ℕ) : Type 0 where
  pub long : length table ≡ count
  pub each : (label : ℕ) → label < count → get_or table label 0 ≡ label_behind f first steps label

-- `first` and `second` are the tables of the two passes, and `end` is the number of items of the code
pub record ArePlaces (f : Frame) (steps : List Addressed) (first second : List ℕ) (end : ℕ) : Type 0 where
  pub of_first : IsTable f [] steps (length first) first
  pub of_second : IsTable f first steps (length first) second
  pub end_is : end ≡ prologue_size f + behind f first steps

-- the place of a label, by the table of the second pass
abbrev pub place_from : (second : List ℕ) → (end label : ℕ) → ℕ
place_from second end label = end - get_or second label 0

-- the label to which the step leads, if it leads to one, is below `count`
abbrev pub StepLeadsBelow : (count : ℕ) → Step → Type 0
StepLeadsBelow count (One (Jump to)) = to < count
StepLeadsBelow count (One (IfNonzero from to)) = to < count
StepLeadsBelow count (One (IfZero from to)) = to < count
StepLeadsBelow count (Branch operator nonzero left right to) = to < count
StepLeadsBelow count (BranchImmediate operator nonzero from word to) = to < count
StepLeadsBelow count step = Unit {0}

abbrev pub LeadsBelow : (count : ℕ) → Addressed → Type 0
LeadsBelow count s = StepLeadsBelow count s.step
