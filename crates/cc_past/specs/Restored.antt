-- What is put back into a library, and why it is not.
use Rattle.std.specs.Prelude.{◌≡◌, ◌<◌, ◌⊎◌, ◌+◌, ℕ, Bool, IsTrue, List, [], ◌∷◌, ◌++◌, if◌then◌else◌}
use Rattle.std.specs.FinMap.{contains_key, insert}
use Rattle.cc_journal.specs.Format.{HoldsAlone, room_of}
use Rattle.cc_unit.specs.declared.unit.StoredUnit.{StoredUnit}
use Rattle.cc_library.specs.Change.{LibraryCommand}
use Rattle.cc_library.specs.declared.command.Change.TheVariants.{Add, Replace}
use Rattle.cc_library.specs.declared.fault.LibraryFault.{LibraryFault}
use Rattle.cc_library.specs.declared.fault.LibraryFault.TheVariants.{Exists, Absent as NoUnit, Full, DiskFault, Closed, Damaged, NotALibrary, OutOfMemory as NoMemory}
use Rattle.cc_library.specs.Apply.{Units, library_of}
use Rattle.cc_library.specs.Answers.{OpenFaults}
use Rattle.cc_library.specs.Body.{body_of}
use Rattle.cc_library.specs.Recovered.{RecoversAlone, RecoversOneOf}
use Rattle.cc_log.specs.Commands.{HasCommands}
use Rattle.cc_tasks.specs.declared.part.PartFault.{PartFault}
use Rattle.cc_tasks.specs.declared.part.PartFault.TheVariants.{BadName, Absent, Library, OutOfMemory}
use Rattle.cc_past.specs.Past.{IsNotStoredOn, IsStored, IsStoredOn}

-- the command that puts a unit under a name: a Replace if the name has a unit in the map, else an Add
abbrev pub putting : Units → (name : List ℕ) → StoredUnit → LibraryCommand
putting units name unit = if contains_key units name then Replace name unit else Add name unit

-- The disk had the records of `commands`, and the one with this number stored the unit under the name. Every image now has exactly these
-- records and that of the command that puts the unit, in areas of the size that they had: nothing is compacted. So it recovers to the map
-- that the commands made, with that unit under the name, and to no other map.
pub record IsRestoredBy (seen name : List ℕ) (number : ℕ) (unit : StoredUnit) (images : List ℕ → Type 0) : Type 0 where
  pub commands : List LibraryCommand
  pub has : HasCommands seen commands
  pub stored : IsStored commands name number unit
  pub logged : (image : List ℕ) → images image → HasCommands image (commands ++ putting (library_of commands) name unit ∷ [])
  pub alone : (image : List ℕ) → images image → HoldsAlone image has.area (has.bodies ++ body_of (putting (library_of commands) name unit) ∷ [])
  pub restored : (image : List ℕ) → images image → RecoversAlone image (insert (library_of commands) name unit)

-- the image could have been left before, or recovers to the earlier map, or to that map with the unit that the command stored
abbrev pub MayBeRestored : (seen name : List ℕ) (number : ℕ) (before : List ℕ → Type 0) (old : Units) → List ℕ → Type 0
MayBeRestored seen name number before old image =
    before image ⊎ ((unit : StoredUnit) × IsStoredOn seen name number unit × RecoversOneOf old (insert old name unit) image)

-- the record of the command that puts the unit does not fit after those that the disk has
abbrev pub HasNoRoom : (seen name : List ℕ) → StoredUnit → Type 0
HasNoRoom seen name unit =
    (commands : List LibraryCommand) × (has : HasCommands seen commands) × (has.area < room_of (has.bodies ++ body_of (putting (library_of commands) name unit) ∷ []))

-- why a unit is not put into a library: the library is not opened; or there is not enough room, and `no_room` holds; or the device failed
abbrev pub IsNotPut : (honest : Bool) (seen : List ℕ) (before after : ℕ) (no_room : Type 0) → LibraryFault → Type 0
IsNotPut honest seen before after no_room Full = (after ≡ before) × (IsTrue honest → no_room)
IsNotPut honest seen before after no_room DiskFault = after ≡ before + 1
IsNotPut honest seen before after no_room NotALibrary = OpenFaults honest seen before after NotALibrary
IsNotPut honest seen before after no_room Damaged = OpenFaults honest seen before after Damaged
IsNotPut honest seen before after no_room NoMemory = after ≡ before
IsNotPut honest seen before after no_room Exists = ⊥
IsNotPut honest seen before after no_room NoUnit = ⊥
IsNotPut honest seen before after no_room Closed = ⊥

-- why nothing is put back: the command stored nothing under the name, or what it stored could not be put into the library
abbrev pub IsNotRestored : (honest : Bool) (seen : List ℕ) (before after : ℕ) (name : List ℕ) (number : ℕ) → PartFault → Type 0
IsNotRestored honest seen before after name number (Library f) =
    IsNotPut honest seen before after ((unit : StoredUnit) × IsStoredOn seen name number unit × HasNoRoom seen name unit) f
IsNotRestored honest seen before after name number BadName = IsNotStoredOn honest seen before after name number BadName
IsNotRestored honest seen before after name number Absent = IsNotStoredOn honest seen before after name number Absent
IsNotRestored honest seen before after name number OutOfMemory = IsNotStoredOn honest seen before after name number OutOfMemory
