-- The table of a unit: ranges of its functions' parameters and results, and of its objects; which objects a function may change; and
-- what is known at places in the code of each function. Nothing is asked of a table: anyone may have made it.
use Rattle.std.specs.Prelude.{◌≡◌, ℕ, Bool, true, false, List, [], get_or, slice_get, Option, Some, None}
use Rattle.cc_simulation.specs.World.{World, object_words}
use Rattle.cc_range.specs.declared.range.Range.{Range}
use Rattle.cc_range.specs.Range.{Has, all_words}

-- What is known at a place: a range for each variable, and one for each object, which has the words of all its elements. A
-- variable or an object after the end of its list may have any word.
pub record Facts : Type 0 where
  pub variables : List Range
  pub objects : List Range

-- what is known at a place; None if the place is never reached
abbrev pub State : Type 0
State = Option Facts

-- A function's row: the ranges of its parameters; how many more variables its walk is to follow; whether other functions may call
-- it; the range of its result; for each object whether it, or a function that it calls, may change it (an object after the end of
-- the list may be changed); and what is known at its loops and blocks, in the order of its text, the outer one first: at the head
-- of a loop before each turn, and at the end of a block.
pub record Row : Type 0 where
  pub parameters : List Range
  pub locals : ℕ
  pub is_called : Bool
  pub result : Range
  pub writes : List Bool
  pub notes : List State

-- the table of a unit: a row for each function by its number, and a range for each object, for all its elements, at each call and
-- at each return of a function that others may call
pub record Table : Type 0 where
  pub rows : List Row
  pub objects : List Range

-- the range at a position; all words after the list's end
abbrev pub at : List Range → ℕ → Range
at rs i = get_or rs i all_words

-- the row of a function; if it has no row, one that nothing calls
abbrev pub no_row : Row
no_row = record { parameters = []; locals = 0; is_called = false; result = all_words; writes = []; notes = [] }

abbrev pub row_of : Table → (function : ℕ) → Row
row_of table f = get_or table.rows f no_row

-- what is noted at a place, if anything
abbrev pub note_at : List State → (place : ℕ) → State
note_at notes k = get_or notes k None

-- whether an object may be changed
abbrev pub is_written : List Bool → (object : ℕ) → Bool
is_written writes o = get_or writes o true

-- each element of each object is in the object's range
abbrev pub HoldObjects : List Range → World → Type 0
HoldObjects rs h = (o i w : ℕ) → slice_get (object_words h o) i ≡ Some w → Has (at rs o) w
