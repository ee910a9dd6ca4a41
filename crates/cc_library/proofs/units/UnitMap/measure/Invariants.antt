use Rattle.std.proofs.Common.{◌≡◌, ◌+◌, ◌++◌, ◌^◌, ◌≤◌, List, ℕ, length}
use Rattle.std.specs.FinMap.{entries}
use Rattle.cc_journal.specs.Format.{room_of}
use Rattle.cc_unit.specs.declared.unit.StoredUnit.{StoredUnit}
use Rattle.cc_library.specs.Compact.{adds, bodies_of}
use Rattle.cc_library.proofs.units.UnitMap.measure.Given as goal

-- the bytes and the names counted so far are those of the entries taken so far
abbrev pub invariant-loop-name : goal.invariant-loop-name
invariant-loop-name l =
    (taken : List (List ℕ × StoredUnit)) × (taken ++ l.name-iterator ≡ entries l.self) × (l.bytes + 1 ≡ room_of (bodies_of (adds taken))) × (l.bytes ≤ 2 ^ 30)
    × (l.names ≡ length taken) × (l.names ≤ l.bytes)
