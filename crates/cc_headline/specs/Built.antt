-- The pieces of a compiled unit, in the form that the core requires: all the pieces of its source, in order.
use Rattle.std.specs.Prelude.{◌≤◌, length}
use Rattle.cc_unit.specs.declared.unit.StoredUnit.{StoredUnit}
use Rattle.cc_core.specs.Rules.{IsBuilt}
use Rattle.cc_link.specs.Made.{IsMade}
use Rattle.cc_headline.specs.Compiling.{compiling, Keeps}

-- all the pieces of a compiled unit's source exist, and make up the unit
abbrev pub MadeUnitsAreBuilt : Type 0
MadeUnitsAreBuilt = (unit : StoredUnit) → length unit.source ≤ 65536 → IsMade unit → IsBuilt compiling Keeps unit
