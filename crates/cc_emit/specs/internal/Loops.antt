-- Which steps are in loops, given the last step that leads to each label.
use Rattle.std.specs.Prelude.{◌≡◌, ℕ, ◌<◌, ◌==◌, Bool, if◌then◌else◌, nat_lt, Option, Some, None, List, length, get_or, drop}
use Rattle.cc_select.specs.declared.step.Step.{Step}
use Rattle.cc_emit.specs.Scratch.{lead_to}

-- `last` has, for each label below `count`, the number of steps up to the last one that leads to it: so one of the steps from a point on
-- leads to the label exactly if the point is before this number
pub record AreLast (code : List Step) (count : ℕ) (last : List ℕ) : Type 0 where
  pub long : length last ≡ count
  pub each : (label at : ℕ) → label < count → lead_to label (drop at code) ≡ nat_lt at (get_or last label 0)

-- a label's entry after step number `at` is noted, given its entry `old` after the later steps
abbrev pub noted : (led : Bool) → (old at : ℕ) → ℕ
noted led old at = if led then (if old == 0 then at else old) else old

abbrev pub later : (a b : ℕ) → ℕ
later a b = if nat_lt a b then b else a

-- the point up to which steps lead back to the labels so far, after a step
abbrev pub reach_past : (last : List ℕ) → (label : Option ℕ) → (reach : ℕ) → ℕ
reach_past last None reach = reach
reach_past last (Some label) reach = later reach (get_or last label 0)
