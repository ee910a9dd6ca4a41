-- What the answers of the public calls are worth.
use Rattle.std.specs.Prelude.{◌≡◌, ℕ, true, List, []}
use Rattle.cc_ast.specs.Tree.{External}
use Rattle.cc_c_semantics.specs.Calls.{main_of, first_shared}
use Rattle.cc_c_semantics.specs.Numbered.{objects_in, world_of}
use Rattle.cc_simulation.specs.World.{Size, IsWorld}
use Rattle.cc_cminor_language.specs.Cminor.{Statement}
use Rattle.cc_range_table.specs.Table.{Row, Table}
use Rattle.cc_range_table.specs.Calls.{Enters}
use Rattle.cc_range_table.specs.Inductive.{covers_code}
use Rattle.cc_range_check.specs.Places.{uncovered_code}
use Rattle.cc_range_check.specs.Checking.{is_empty, starts_in_table}

-- a table covers all operations of a function's code exactly if none is listed as not covered
abbrev pub CoversIfNoneIsListed : Type 0
CoversIfNoneIsListed = (sizes : List Size) (table : Table) (row : Row) (s : Statement) → covers_code sizes table row s ≡ is_empty (uncovered_code sizes table row s)

-- if the test of the words before the run succeeds, the call of main is in the table, on every input
abbrev pub StartsAreInTable : Type 0
StartsAreInTable = (unit : List External) (table : Table) (input : List ℕ) → IsWorld (objects_in unit) (world_of (first_shared unit input)) → starts_in_table table unit ≡ true
    → Enters table (main_of unit) [] (world_of (first_shared unit input))
