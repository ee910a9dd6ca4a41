-- A run of edits: they are carried out in order, and after each edit in which the device failed (35) the disk is opened again.
use Rattle.std.specs.Prelude.{◌≡◌, ◌≢◌, ◌⊎◌, ℕ, Bool, false, IsTrue, List, [], ◌∷◌, ◌++◌, Result, Ok, Err}
use Rattle.cc_library.specs.Change.{LibraryCommand}
use Rattle.cc_library.specs.declared.command.Edit.{Edit}
use Rattle.cc_library.specs.declared.command.Edit.TheVariants.{Change, Compact}
use Rattle.cc_library.specs.declared.fault.LibraryFault.{LibraryFault}
use Rattle.cc_library.specs.declared.fault.LibraryFault.TheVariants.{Exists, Absent, Full, DiskFault, Closed, Damaged, NotALibrary, OutOfMemory}
use Rattle.cc_library.specs.Fault.{fault_number}
use Rattle.cc_library.specs.Apply.{Units, after, after_all}
use Rattle.cc_library.specs.Body.{body_of}
use Rattle.cc_library.specs.Recovered.{RecoversAlone, RecoversOneOf, View}
use Rattle.cc_library.specs.Compact.{compacted}
use Rattle.cc_library.specs.Answers.{OpenFaults, ChangeAnswers, ChangeLeaves, CompactAnswers, CompactLeaves}

-- the number of an answer, 0 for Ok
abbrev pub answer_number : {T : Type 0} → Result T LibraryFault → ℕ
answer_number (Ok done) = 0
answer_number (Err fault) = fault_number fault

-- `done` are the changes that a run made: each change with number 0, some of those with 35, and no others; Compact changes nothing
abbrev pub AreDone : List Edit → List ℕ → List LibraryCommand → Type 0
AreDone [] [] done = done ≡ []
AreDone [] (number ∷ numbers) done = ⊥
AreDone (edit ∷ edits) [] done = ⊥
AreDone (Change command ∷ edits) (number ∷ numbers) done =
    ((others : List LibraryCommand) × ((number ≡ 0) ⊎ (number ≡ 35)) × (done ≡ command ∷ others) × AreDone edits numbers others)
    ⊎ ((number ≢ 0) × AreDone edits numbers done)
AreDone (Compact ∷ edits) (number ∷ numbers) done = AreDone edits numbers done

-- the map after an edit
abbrev pub after_edit : Units → Edit → Units
after_edit units (Change command) = after units command
after_edit units Compact = units

-- The image recovers to exactly one map: the map after the changes made by the first few edits. The first numbers, one for each of these
-- edits, say which changes were made.
pub record RecoversAmong (units : Units) (edits : List Edit) (numbers : List ℕ) (image : List ℕ) : Type 0 where
  pub prefix : List Edit
  pub behind : List Edit
  pub earlier : List ℕ
  pub later : List ℕ
  pub done : List LibraryCommand
  pub edits_are : edits ≡ prefix ++ behind
  pub numbers_are : numbers ≡ earlier ++ later
  pub are_done : AreDone prefix earlier done
  pub recovers : RecoversAlone image (after_all units done)

module _ {D : Type 0} where
  -- which answer an edit has, and when
  abbrev pub EditAnswers : {T : Type 0} → View D → Edit → (before after : ℕ) → Result T LibraryFault → Type 0
  EditAnswers old (Change command) before after result = ChangeAnswers old command before after result
  EditAnswers old Compact before after result = CompactAnswers old before after result

  abbrev pub EditLeaves : {T : Type 0} → Edit → (old new : View D) → Result T LibraryFault → Type 0
  EditLeaves (Change command) old new result = ChangeLeaves command old new result
  EditLeaves Compact old new result = CompactLeaves old new result

  -- the records after an edit
  abbrev pub records_after : View D → Edit → List (List ℕ)
  records_after old (Change command) = old.bodies ++ body_of command ∷ []
  records_after old Compact = compacted old.units

  -- the library is as the edit left it, or, if the device failed, it was opened again: on an honest disk it then has the records and the
  -- map from before the edit or from after it
  abbrev pub GoesOn : {T : Type 0} → Bool → (D → ℕ) → View D → Edit → Result T LibraryFault → (left new : View D) → Type 0
  GoesOn honest failures old edit (Ok done) left new = new ≡ left
  GoesOn honest failures old edit (Err DiskFault) left new =
      (new.closed ≡ false) × (failures new.disk ≡ failures left.disk)
      × (IsTrue honest → (new.area ≡ old.area)
      × (((new.bodies ≡ old.bodies) × (new.units ≡ old.units)) ⊎ ((new.bodies ≡ records_after old edit) × (new.units ≡ after_edit old.units edit))))
  GoesOn honest failures old edit (Err Exists) left new = new ≡ left
  GoesOn honest failures old edit (Err Absent) left new = new ≡ left
  GoesOn honest failures old edit (Err Full) left new = new ≡ left
  GoesOn honest failures old edit (Err Closed) left new = new ≡ left
  GoesOn honest failures old edit (Err OutOfMemory) left new = new ≡ left
  GoesOn honest failures old edit (Err Damaged) left new = new ≡ left
  GoesOn honest failures old edit (Err NotALibrary) left new = new ≡ left

  -- one edit of a run: its number is that of its answer
  pub record IsEdited (honest : Bool) (failures : D → ℕ) (old : View D) (edit : Edit) (number : ℕ) (new : View D) : Type 0 where
    pub answer : Result (Unit {0}) LibraryFault
    pub left : View D
    pub number_is : number ≡ answer_number answer
    pub answers : EditAnswers old edit (failures old.disk) (failures left.disk) answer
    pub leaves : EditLeaves edit old left answer
    pub goes_on : GoesOn honest failures old edit answer left new

  -- edits carried out one after the other, with their numbers
  abbrev pub AreEdited : Bool → (D → ℕ) → View D → List Edit → List ℕ → View D → Type 0
  AreEdited honest failures old [] [] new = new ≡ old
  AreEdited honest failures old [] (number ∷ numbers) new = ⊥
  AreEdited honest failures old (edit ∷ edits) [] new = ⊥
  AreEdited honest failures old (edit ∷ edits) (number ∷ numbers) new =
      (mid : View D) × IsEdited honest failures old edit number mid × AreEdited honest failures mid edits numbers new

  -- an edit in which the device failed, and whose disk could not be opened again: on an honest disk because the device failed again or
  -- memory ran out, and then the disk still has the map from before the edit or from after it
  pub record IsRefused (honest : Bool) (failures : D → ℕ) (seen : D → List ℕ) (may_leave : D → List ℕ → Type 0) (old : View D) (edit : Edit) (fault : LibraryFault) (disk : D) : Type 0 where
    pub left : View D
    pub answers : EditAnswers {T = Unit {0}} old edit (failures old.disk) (failures left.disk) (Err DiskFault)
    pub leaves : EditLeaves {T = Unit {0}} edit old left (Err DiskFault)
    pub refused : OpenFaults honest (seen left.disk) (failures left.disk) (failures disk) fault
    pub cause : IsTrue honest → (fault ≡ DiskFault) ⊎ (fault ≡ OutOfMemory)
    pub images : IsTrue honest → (image : List ℕ) → may_leave disk image → RecoversOneOf old.units (after_edit old.units edit) image

  -- a run that stopped after an edit whose disk could not be opened again; `numbers` are those of the edits up to it, and the last is 35
  pub record Stopped (honest : Bool) (failures : D → ℕ) (seen : D → List ℕ) (may_leave : D → List ℕ → Type 0) (old : View D) (edits : List Edit) (numbers : List ℕ) (fault : LibraryFault) (disk : D) : Type 0 where
    pub prefix : List Edit
    pub edit : Edit
    pub behind : List Edit
    pub earlier : List ℕ
    pub mid : View D
    pub edits_are : edits ≡ prefix ++ edit ∷ behind
    pub numbers_are : numbers ≡ earlier ++ 35 ∷ []
    pub edited : AreEdited honest failures old prefix earlier mid
    pub refused : IsRefused honest failures seen may_leave mid edit fault disk

  -- there was no memory for the numbers, and nothing was done
  abbrev pub HadNoRoom : View D → List ℕ → LibraryFault → D → Type 0
  HadNoRoom old numbers fault disk = (numbers ≡ []) × (fault ≡ OutOfMemory) × (disk ≡ old.disk)
