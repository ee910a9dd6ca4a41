-- A build's rules, apart from any code; when pieces are all the pieces of a source; and which unit they make up.
use Rattle.std.specs.Prelude.{ℕ, ◌≡◌, List, length, slice_get, Some, Result, Ok, All}
use Rattle.cc_unit.specs.declared.unit.StoredUnit.{StoredUnit}
use Rattle.cc_library.specs.Change.{LibraryCommand}
use Rattle.cc_library.specs.declared.command.Change.TheVariants as command

-- the rules of a build whose pieces have the type P
pub record Rules (P : Type 0) : Type 1 where
  -- a source has this many pieces, or is refused with this number; `Build` requires that each source has such a
  -- plan
  pub plan : List ℕ → Result ℕ ℕ → Type 0
  -- the source that a piece names
  pub source_of : P → List ℕ
  -- which piece of its source a piece is, counted from 0
  pub part_of : P → ℕ
  -- the unit that the pieces of a source make up, or the number that refuses them
  pub unit : List ℕ → List P → Result StoredUnit ℕ

-- these are all the pieces of the source, each at its index
pub record AreWhole {P : Type 0} (rules : Rules P) (source : List ℕ) (pieces : List P) : Type 0 where
  pub counted : rules.plan source (Ok (length pieces))
  pub named : (k : ℕ) (piece : P) → slice_get pieces k ≡ Some piece → (rules.source_of piece ≡ source) × (rules.part_of piece ≡ k)

-- some pieces make up this unit: they are all the pieces of its source, and each has what its type keeps
pub record IsBuilt {P : Type 0} (rules : Rules P) (keeps : P → Type 0) (unit : StoredUnit) : Type 0 where
  pub pieces : List P
  pub whole : AreWhole rules unit.source pieces
  pub kept : All keeps pieces
  pub unit_is : rules.unit unit.source pieces ≡ Ok unit

-- if this command has a unit, some pieces make it up
abbrev pub HasBuilt : {P : Type 0} → Rules P → (P → Type 0) → LibraryCommand → Type 0
HasBuilt rules keeps (command.Add name unit) = IsBuilt rules keeps unit
HasBuilt rules keeps (command.Replace name unit) = IsBuilt rules keeps unit
HasBuilt rules keeps (command.Withdraw name) = Unit {0}
