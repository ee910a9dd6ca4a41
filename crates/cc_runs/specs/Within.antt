-- A run that ends before it has written more words than it may.
use Rattle.std.specs.Prelude.{◌≤◌, ◌<◌, ℕ, Bool, List, length, Option, Some, None}
use Rattle.cc_rv32.specs.declared.image.Image.{Image}
use Rattle.cc_rv32.specs.Machine.{machine_behavior}
use Rattle.cc_runs.specs.declared.count.CountedRun.{CountedRun}
use Rattle.cc_runs.specs.Count.{IsCounted}

-- there are no more of these words than may be written; without a bound there may be any number
abbrev pub IsFew : (most : Option ℕ) → List ℕ → Type 0
IsFew None words = Unit {0}
IsFew (Some most) words = length words ≤ most

-- there are more of these words than may be written
abbrev pub IsOver : (most : Option ℕ) → List ℕ → Type 0
IsOver None words = ⊥
IsOver (Some most) words = most < length words

-- n is the greatest number of instructions, up to the bound, within which the image writes no more words than it may
pub record IsLast (image : Image) (steps : ℕ) (most : Option ℕ) (words : List ℕ) (n : ℕ) : Type 0 where
  pub within : n ≤ steps
  pub few : IsFew most (machine_behavior image words n).output
  pub over : (k : ℕ) → n < k → k ≤ steps → IsOver most (machine_behavior image words k).output

-- what an image does on the input words within the bound, and within as many instructions as write no more words than it may
abbrev pub IsCountedWithin : Image → (counted : Bool) (steps : ℕ) (most : Option ℕ) (words : List ℕ) → CountedRun → Type 0
IsCountedWithin image counted steps most words done = (n : ℕ) × IsLast image steps most words n × IsCounted image counted n words done
