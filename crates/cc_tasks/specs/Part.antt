-- What is taken out of a library, and why nothing is.
use Rattle.std.specs.Prelude.{ℕ, ◌≡◌, Bool, false, IsTrue, List, Some, None}
use Rattle.std.specs.FinMap as map
use Rattle.cc_unit.specs.declared.unit.StoredUnit.{StoredUnit}
use Rattle.cc_library.specs.Apply.{Units}
use Rattle.cc_library.specs.Name.{is_name}
use Rattle.cc_library.specs.Recovered.{Recovers}
use Rattle.cc_library.specs.Answers.{OpenFaults}
use Rattle.cc_library.specs.Fault.{fault_number}
use Rattle.cc_task.specs.declared.part.Part.{Part}
use Rattle.cc_task.specs.declared.part.Part.TheVariants.{Image, Source}
use Rattle.cc_tasks.specs.Answer.{IsHex}
use Rattle.cc_tasks.specs.declared.part.PartFault.{PartFault}
use Rattle.cc_tasks.specs.declared.part.PartFault.TheVariants.{BadName, Absent, Library, OutOfMemory}

-- the number that a fault is known by
abbrev pub part_fault_number : PartFault → ℕ
part_fault_number BadName = 33
part_fault_number Absent = 32
part_fault_number (Library f) = fault_number f
part_fault_number OutOfMemory = 40

-- the bytes are this part of the unit: its image as Intel HEX, or its source
abbrev pub IsPart : Part → StoredUnit → (bytes : List ℕ) → Type 0
IsPart Image unit bytes = IsHex bytes unit.image
IsPart Source unit bytes = bytes ≡ unit.source

-- the bytes are a name, and the map has this unit under that name
pub record IsFound (units : Units) (name : List ℕ) (unit : StoredUnit) : Type 0 where
  pub is_name : IsTrue (is_name name)
  pub found : map.get units name ≡ Some unit

-- the bytes are a name, and the map has no unit under that name
pub record IsAbsent (units : Units) (name : List ℕ) : Type 0 where
  pub is_name : IsTrue (is_name name)
  pub absent : map.get units name ≡ None

-- the bytes are this part of the unit under the name in the map
abbrev pub IsPartIn : Units → (name : List ℕ) → Part → (bytes : List ℕ) → Type 0
IsPartIn units name part bytes = (unit : StoredUnit) × IsFound units name unit × IsPart part unit bytes

-- why no part is taken out: 33 exactly if the bytes are not a name, 32 exactly if they are a name that no unit has;
-- otherwise memory ran out
abbrev pub IsNoPartIn : Units → (name : List ℕ) → PartFault → Type 0
IsNoPartIn units name BadName = is_name name ≡ false
IsNoPartIn units name Absent = IsAbsent units name
IsNoPartIn units name (Library f) = ⊥
IsNoPartIn units name OutOfMemory = (unit : StoredUnit) × IsFound units name unit

-- the disk's bytes recover to a map in which the unit under the name has this part
abbrev pub IsPartOn : (seen name : List ℕ) → Part → (bytes : List ℕ) → Type 0
IsPartOn seen name part bytes = (units : Units) × Recovers seen units × IsPartIn units name part bytes

-- why no part is taken out of a disk: the library is not opened, as `OpenFaults` says; or it is, and no part is taken out of the map to
-- which the disk recovers
abbrev pub IsNoPartOn : (honest : Bool) (seen : List ℕ) (before after : ℕ) (name : List ℕ) → PartFault → Type 0
IsNoPartOn honest seen before after name (Library f) = OpenFaults honest seen before after f
IsNoPartOn honest seen before after name BadName = (after ≡ before) × (is_name name ≡ false) × (IsTrue honest → (units : Units) × Recovers seen units)
IsNoPartOn honest seen before after name Absent = (after ≡ before) × (IsTrue honest → (units : Units) × Recovers seen units × IsNoPartIn units name Absent)
IsNoPartOn honest seen before after name OutOfMemory = after ≡ before
