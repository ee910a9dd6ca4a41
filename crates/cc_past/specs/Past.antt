-- What a command of a library stored, and why it stored nothing.
use Rattle.std.specs.Prelude.{◌≡◌, ℕ, Bool, false, IsTrue, List, Some, None}
use Rattle.std.specs.FinMap.{empty}
use Rattle.cc_unit.specs.declared.unit.StoredUnit.{StoredUnit}
use Rattle.cc_library.specs.Change.{LibraryCommand}
use Rattle.cc_library.specs.Name.{is_name}
use Rattle.cc_library.specs.Apply.{AreAccepted}
use Rattle.cc_library.specs.Answers.{OpenFaults}
use Rattle.cc_log.specs.Commands.{HasCommands, stored_at}
use Rattle.cc_task.specs.declared.part.Part.{Part}
use Rattle.cc_tasks.specs.Part.{IsPart}
use Rattle.cc_tasks.specs.declared.part.PartFault.{PartFault}
use Rattle.cc_tasks.specs.declared.part.PartFault.TheVariants.{BadName, Absent, Library, OutOfMemory}

-- the bytes are a name under which the command with this number stored this unit
pub record IsStored (commands : List LibraryCommand) (name : List ℕ) (number : ℕ) (unit : StoredUnit) : Type 0 where
  pub is_name : IsTrue (is_name name)
  pub stored : stored_at commands name number ≡ Some unit

-- the bytes are a name under which the command with this number stored nothing, or there is no such command
pub record StoresNone (commands : List LibraryCommand) (name : List ℕ) (number : ℕ) : Type 0 where
  pub is_name : IsTrue (is_name name)
  pub stored : stored_at commands name number ≡ None

-- of some commands, each of which is accepted by the map that those before it made, the one with this number stored this unit under the name
abbrev pub IsStoredBySome : (name : List ℕ) (number : ℕ) → StoredUnit → Type 0
IsStoredBySome name number unit = (commands : List LibraryCommand) × AreAccepted empty commands × IsStored commands name number unit

-- of the commands whose records the disk has, the one with this number stored this unit under the name
abbrev pub IsStoredOn : (seen name : List ℕ) (number : ℕ) → StoredUnit → Type 0
IsStoredOn seen name number unit = (commands : List LibraryCommand) × HasCommands seen commands × IsStored commands name number unit

-- Why there is no such unit on a disk: the library could not be opened; or it was, and the bytes are not a name, or they are one under
-- which the command stored no unit.
abbrev pub IsNotStoredOn : (honest : Bool) (seen : List ℕ) (before after : ℕ) (name : List ℕ) (number : ℕ) → PartFault → Type 0
IsNotStoredOn honest seen before after name number (Library f) = OpenFaults honest seen before after f
IsNotStoredOn honest seen before after name number BadName =
    (is_name name ≡ false) × (after ≡ before) × (IsTrue honest → (commands : List LibraryCommand) × HasCommands seen commands)
IsNotStoredOn honest seen before after name number Absent =
    (after ≡ before) × (IsTrue honest → (commands : List LibraryCommand) × HasCommands seen commands × StoresNone commands name number)
IsNotStoredOn honest seen before after name number OutOfMemory = after ≡ before

-- the bytes are this part of that unit
abbrev pub IsPartAt : (seen name : List ℕ) (number : ℕ) → Part → (bytes : List ℕ) → Type 0
IsPartAt seen name number part bytes = (unit : StoredUnit) × IsStoredOn seen name number unit × IsPart part unit bytes
