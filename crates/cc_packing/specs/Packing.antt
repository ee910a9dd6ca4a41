-- What a unit's file has, and the line that names a unit by its hash.
use Rattle.std.specs.Prelude.{◌≡◌, ℕ, List, [], ◌∷◌, ◌++◌, Some}
use Rattle.std.specs.FinMap as map
use Rattle.cc_unit.specs.declared.unit.StoredUnit.{StoredUnit}
use Rattle.cc_library.specs.Apply.{Units}
use Rattle.cc_library.specs.Body.{Spells}
use Rattle.cc_library.specs.Recovered.{Recovers}
use Rattle.cc_library.specs.declared.command.Change.TheVariants.{Add}
use Rattle.cc_pack.specs.File.{file_text, line_text}
use Rattle.cc_pack.specs.declared.file.ConfirmedIn.{ConfirmedIn}
use Rattle.cc_pack.specs.declared.fault.PackFault.{PackFault}
use Rattle.cc_pack.specs.declared.fault.PackFault.TheVariants.{Damaged, OutOfMemory}
use Rattle.cc_packing.specs.Modes.{AreModesOf}

-- the bytes are the file of this unit, with these modes: its body is that of the record which adds the unit under the name
pub record IsFileOf (file : List ℕ) (modes : ConfirmedIn) (name : List ℕ) (unit : StoredUnit) : Type 0 where
  pub body : List ℕ
  pub spells : Spells body (Add name unit)
  pub whole : file ≡ file_text modes body

-- why no unit is read: the bytes are the file of no unit; or memory ran out
abbrev pub IsNoFile : (file : List ℕ) → PackFault → Type 0
IsNoFile file Damaged = (modes : ConfirmedIn) (name : List ℕ) (unit : StoredUnit) → IsFileOf file modes name unit → ⊥
IsNoFile file OutOfMemory = Unit {0}

-- the bytes are the file of this unit, with the modes in which an audit confirms it
abbrev pub IsPacked : (name : List ℕ) → StoredUnit → (file : List ℕ) → Type 0
IsPacked name unit file = (modes : ConfirmedIn) × AreModesOf unit modes × IsFileOf file modes name unit

-- the line is the first one of the unit's file, and then the name
pub record IsHashLine (name : List ℕ) (unit : StoredUnit) (line : List ℕ) : Type 0 where
  pub modes : ConfirmedIn
  pub are : AreModesOf unit modes
  pub body : List ℕ
  pub spells : Spells body (Add name unit)
  pub whole : line ≡ line_text modes body ++ 32 ∷ (name ++ 10 ∷ [])

-- the lines of the units under these names, in this order
abbrev pub AreHashLines : Units → (names : List (List ℕ)) → (text : List ℕ) → Type 0
AreHashLines units [] text = text ≡ []
AreHashLines units (name ∷ names) text =
    (unit : StoredUnit) × (map.get units name ≡ Some unit) × ((line rest : List ℕ) × IsHashLine name unit line × AreHashLines units names rest × (text ≡ line ++ rest))

-- the lines of all units in the map to which the disk's bytes recover, in the order of their names
abbrev pub AreHashesOn : (seen text : List ℕ) → Type 0
AreHashesOn seen text = (units : Units) × Recovers seen units × AreHashLines units (map.keys units) text
