use Rattle.std.proofs.Common.{◌≡◌, ◌++◌, ◌≤◌, List, ℕ}
use Rattle.std.specs.FinMap.{entries}
use Rattle.cc_journal.specs.Format.{room_of}
use Rattle.cc_unit.specs.declared.unit.StoredUnit.{StoredUnit}
use Rattle.cc_library.specs.Compact.{adds, bodies_of}
use Rattle.cc_library.proofs.units.UnitMap.fits.Given as goal

-- the room so far is that of the entries taken so far, and it is within the area
abbrev pub invariant-loop-name : goal.invariant-loop-name
invariant-loop-name l = (taken : List (List ℕ × StoredUnit)) × (taken ++ l.name-iterator ≡ entries l.self) × (l.room ≡ room_of (bodies_of (adds taken))) × (l.room ≤ l.area)
