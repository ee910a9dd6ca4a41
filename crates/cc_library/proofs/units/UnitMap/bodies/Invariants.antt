use Rattle.std.proofs.Common.{◌≡◌, ◌++◌, List, ℕ}
use Rattle.std.specs.FinMap.{entries}
use Rattle.cc_unit.specs.declared.unit.StoredUnit.{StoredUnit}
use Rattle.cc_library.specs.Compact.{adds}
use Rattle.cc_library.specs.Recovered.{AreSpelled}
use Rattle.cc_library.proofs.units.UnitMap.bodies.Given as goal

-- the bodies so far are those of the entries that were taken
abbrev pub invariant-loop-name : goal.invariant-loop-name
invariant-loop-name l = (taken : List (List ℕ × StoredUnit)) × (taken ++ l.name-iterator ≡ entries l.self) × AreSpelled l.bodies.items (adds taken)
