-- The facts, rows and tables that values of the code represent.
use Rattle.std.specs.Prelude.{List, map, Option, Some, None}
use Rattle.cc_range_table.specs.Table as ranges
use Rattle.cc_range_table.specs.Table.{State}
use Rattle.cc_range_check.specs.declared.table.Facts.{Facts}
use Rattle.cc_range_check.specs.declared.table.Row.{Row}
use Rattle.cc_range_check.specs.declared.table.Table.{Table}

abbrev pub facts_of : Facts → ranges.Facts
facts_of F = record { variables = F.variables.items; objects = F.objects.items }

abbrev pub state_of : Option Facts → State
state_of None = None
state_of (Some F) = Some (facts_of F)

abbrev pub states_of : List (Option Facts) → List State
states_of notes = map state_of notes

abbrev pub row_of_value : Row → ranges.Row
row_of_value r = record { parameters = r.parameters.items; locals = r.locals; is_called = r.is_called; result = r.result; writes = r.writes.items; notes = states_of r.notes.items }

abbrev pub table_of : Table → ranges.Table
table_of t = record { rows = map row_of_value t.rows.items; objects = t.objects.items }
