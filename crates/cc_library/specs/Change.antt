-- A change of a library that carries the unit itself.
use Rattle.cc_unit.specs.declared.unit.StoredUnit.{StoredUnit}
use Rattle.cc_library.specs.declared.command.Change.{Change}

-- an Add or Replace with a name and a unit, or a Withdraw with a name
abbrev pub LibraryCommand : Type 0
LibraryCommand = Change StoredUnit
