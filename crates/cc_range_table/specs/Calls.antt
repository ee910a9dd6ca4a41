-- When a call's arguments and world, and its answer, are in the table.
use Rattle.std.specs.Prelude.{◌≡◌, ℕ, true, false, List, length, Some, slice_get}
use Rattle.cc_simulation.specs.World.{World, Answer, object_words}
use Rattle.cc_range.specs.Range.{Has}
use Rattle.cc_range_table.specs.Table.{Table, at, row_of, is_written, HoldObjects}

-- what a call passes is in the table
pub record Enters (table : Table) (f : ℕ) (ws : List ℕ) (h : World) : Type 0 where
  pub count : length ws ≡ length (row_of table f).parameters
  pub arguments : (k w : ℕ) → slice_get ws k ≡ Some w → Has (at (row_of table f).parameters k) w
  pub objects : HoldObjects table.objects h

-- what a call answers is in the table, and only what the function's row says has changed
pub record Leaves (table : Table) (f : ℕ) (h : World) (a : Answer) : Type 0 where
  pub result : (row_of table f).is_called ≡ true → Has (row_of table f).result a.value
  pub objects : (row_of table f).is_called ≡ true → HoldObjects table.objects a.world
  pub changed : (o : ℕ) → is_written (row_of table f).writes o ≡ false → object_words a.world o ≡ object_words h o
