-- A unit that is added to the library on a disk, and why it is not.
use Rattle.std.specs.Prelude.{◌≡◌, ◌<◌, ◌⊎◌, ◌+◌, ℕ, Bool, true, false, IsTrue, List, [], ◌∷◌, ◌++◌}
use Rattle.std.specs.FinMap.{contains_key, insert}
use Rattle.cc_journal.specs.Format.{HoldsRecords, room_of}
use Rattle.cc_unit.specs.declared.unit.StoredUnit.{StoredUnit}
use Rattle.cc_library.specs.declared.command.Change.TheVariants.{Add}
use Rattle.cc_library.specs.declared.fault.LibraryFault.{LibraryFault}
use Rattle.cc_library.specs.declared.fault.LibraryFault.TheVariants.{Exists, Absent, Full, DiskFault, Closed, Damaged, NotALibrary, OutOfMemory}
use Rattle.cc_library.specs.Apply.{Units}
use Rattle.cc_library.specs.Answers.{OpenFaults}
use Rattle.cc_library.specs.Body.{body_of}
use Rattle.cc_library.specs.Recovered.{Recovers, RecoversAlone, RecoversOneOf}

-- The disk's bytes recovered to a map in which the name had no unit. Every image recovers to that map with the unit under the name, and to
-- no other.
pub record IsAddedTo (seen name : List ℕ) (unit : StoredUnit) (images : List ℕ → Type 0) : Type 0 where
  pub units : Units
  pub recovers : Recovers seen units
  pub free : contains_key units name ≡ false
  pub added : (image : List ℕ) → images image → RecoversAlone image (insert units name unit)

-- the image could have been left before, or recovers to the earlier map, or to that map with the unit
abbrev pub MayBeAdded : (before : List ℕ → Type 0) (old : Units) (name : List ℕ) → StoredUnit → List ℕ → Type 0
MayBeAdded before old name unit image = before image ⊎ RecoversOneOf old (insert old name unit) image

-- the record that adds the unit does not fit after those that the disk has
abbrev pub HasNoRoom : (seen name : List ℕ) → StoredUnit → Type 0
HasNoRoom seen name unit = (area : ℕ) × (bodies : List (List ℕ)) × HoldsRecords seen area bodies × (area < room_of (bodies ++ body_of (Add name unit) ∷ []))

-- why the unit is not added: the library is not opened; or the name has a unit (31), the record does not fit (34), or the device failed
abbrev pub IsNotAdded : (honest : Bool) (seen : List ℕ) (before after : ℕ) (name : List ℕ) → StoredUnit → LibraryFault → Type 0
IsNotAdded honest seen before after name unit Exists = (after ≡ before) × (IsTrue honest → (units : Units) × Recovers seen units × (contains_key units name ≡ true))
IsNotAdded honest seen before after name unit Full = (after ≡ before) × (IsTrue honest → HasNoRoom seen name unit)
IsNotAdded honest seen before after name unit DiskFault = after ≡ before + 1
IsNotAdded honest seen before after name unit NotALibrary = OpenFaults honest seen before after NotALibrary
IsNotAdded honest seen before after name unit Damaged = OpenFaults honest seen before after Damaged
IsNotAdded honest seen before after name unit OutOfMemory = after ≡ before
IsNotAdded honest seen before after name unit Absent = ⊥
IsNotAdded honest seen before after name unit Closed = ⊥
