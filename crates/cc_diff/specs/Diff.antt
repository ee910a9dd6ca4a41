-- The differences between two libraries, and why they are not compared.
use Rattle.std.specs.Prelude.{◌≡◌, ◌↔◌, ℕ, ◌&&◌, ◌||◌, Bool, true, false, IsTrue, List, [], ◌∷◌, ◌++◌, Option, Some, None}
use Rattle.std.specs.List.{flat_map}
use Rattle.std.specs.Str.{bytes_eq}
use Rattle.std.specs.FinMap.{contains_key, get, keys}
use Rattle.cc_rv32.specs.declared.image.Image.{Image}
use Rattle.cc_unit.specs.declared.unit.StoredUnit.{StoredUnit}
use Rattle.cc_library.specs.Apply.{Units}
use Rattle.cc_library.specs.Recovered.{Recovers}
use Rattle.cc_library.specs.Answers.{OpenFaults}
use Rattle.cc_library.specs.Fault.{fault_number as library_fault_number}
use Rattle.cc_diff.specs.declared.difference.Difference.{Difference}
use Rattle.cc_diff.specs.declared.difference.Difference.TheVariants.{Left, Right, Source, Image as ImagePart, Certificate}
use Rattle.cc_diff.specs.declared.difference.DiffLine.{DiffLine}
use Rattle.cc_diff.specs.declared.disks.DiffFault.{DiffFault}
use Rattle.cc_diff.specs.declared.disks.DiffFault.TheVariants as fault

-- ---- one name

-- two images have the same code and the same globals
abbrev pub is_same_image : Image → Image → Bool
is_same_image left right = bytes_eq left.code right.code && bytes_eq left.globals right.globals

-- there are two certificates with the same bytes, or no certificate
abbrev pub is_same_certificate : Option (List ℕ) → Option (List ℕ) → Bool
is_same_certificate None None = true
is_same_certificate None (Some right) = false
is_same_certificate (Some left) None = false
is_same_certificate (Some left) (Some right) = bytes_eq left right

abbrev pub line_of : (name : List ℕ) → Difference → DiffLine
line_of name difference = record { name = name; difference = difference }

-- a line for a part, unless the part is the same
abbrev pub unless : (same : Bool) → (name : List ℕ) → Difference → List DiffLine
unless true name part = []
unless false name part = line_of name part ∷ []

-- the lines for two units with the same name: one line for each of source, image and certificate that differs
abbrev pub lines_of_both : (name : List ℕ) → (left right : StoredUnit) → List DiffLine
lines_of_both name left right =
    unless (bytes_eq left.source right.source) name Source
    ++ (unless (is_same_image left.image right.image) name ImagePart
    ++ unless (is_same_certificate left.certificate right.certificate) name Certificate)

-- the lines of a name, given the units that it has on the two sides
abbrev pub lines_of : (name : List ℕ) → (left right : Option StoredUnit) → List DiffLine
lines_of name None None = []
lines_of name (Some left) None = line_of name Left ∷ []
lines_of name None (Some right) = line_of name Right ∷ []
lines_of name (Some left) (Some right) = lines_of_both name left right

-- ---- all names

-- the map `both` has a unit for each name for which at least one of the two maps has one, and for no other
abbrev pub HasNamesOf : (left right both : Units) → Type 0
HasNamesOf left right both = (name : List ℕ) → contains_key both name ≡ (contains_key left name || contains_key right name)

-- the lines are those of each name of the two maps, in the order of the names' bytes
pub record IsDiff (left right : Units) (lines : List DiffLine) : Type 0 where
  -- a map with the names of both: its keys are in the order of the names' bytes
  pub both : Units
  pub names : HasNamesOf left right both
  pub lines_are : lines ≡ flat_map (λ name. lines_of name (get left name) (get right name)) (keys both)

-- ---- disks

-- The lines are the differences between two maps, and there are no lines exactly if the maps are the same. On an honest kind of disk they are
-- the maps to which the disks recover.
pub record IsDiffOn (honest : Bool) (seen_left seen_right : List ℕ) (lines : List DiffLine) : Type 0 where
  pub left : Units
  pub right : Units
  pub recovers_left : IsTrue honest → Recovers seen_left left
  pub recovers_right : IsTrue honest → Recovers seen_right right
  pub is_diff : IsDiff left right lines
  pub equal : (lines ≡ []) ↔ (left ≡ right)

-- Why two libraries are not compared: the left library is not opened, and the right disk is as it was; or the left one is opened,
-- and the right one is not; or memory ran out.
abbrev pub DiffFaults : (honest : Bool) (seen_left seen_right : List ℕ) (left_before left_after right_before right_after : ℕ) → DiffFault → Type 0
DiffFaults honest seen_left seen_right left_before left_after right_before right_after (fault.Left f) =
    OpenFaults honest seen_left left_before left_after f × (right_after ≡ right_before)
DiffFaults honest seen_left seen_right left_before left_after right_before right_after (fault.Right f) =
    (left_after ≡ left_before) × (IsTrue honest → (left : Units) × Recovers seen_left left) × OpenFaults honest seen_right right_before right_after f
DiffFaults honest seen_left seen_right left_before left_after right_before right_after fault.OutOfMemory =
    (left_after ≡ left_before) × (right_after ≡ right_before)

-- the number of a fault
abbrev pub fault_number : DiffFault → ℕ
fault_number (fault.Left f) = library_fault_number f
fault_number (fault.Right f) = library_fault_number f
fault_number fault.OutOfMemory = 40
