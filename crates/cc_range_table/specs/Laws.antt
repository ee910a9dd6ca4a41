-- What holds for a unit whose table is inductive. The pairs of Cminor that the compiler makes show the first four parts of each record;
-- the table's parts are tests.
use Rattle.std.specs.Prelude.{◌≡◌, ℕ, ◌<◌, ◌≤◌, true, List, [], length}
use Rattle.cc_ast.specs.Tree.{External, Source}
use Rattle.cc_types.specs.Typed.{IsTyped}
use Rattle.cc_simulation.specs.World.{World, Answer, Gives, IsWorld}
use Rattle.cc_simulation.specs.Meaning.{Meaning, most_open, IsCall}
use Rattle.cc_c_semantics.specs.Outcome.{Wrong}
use Rattle.cc_c_semantics.specs.Meaning.{functions, source_behavior}
use Rattle.cc_c_semantics.specs.Calls.{main_of, first_shared}
use Rattle.cc_c_semantics.specs.Numbered.{world_of, objects_in, IsMeaning}
use Rattle.cc_c_semantics.specs.declared.cause.Cause.{Cause}
use Rattle.cc_c_semantics.specs.declared.cause.Cause.TheVariants.{Depth}
use Rattle.cc_c_semantics.specs.declared.mode.Mode.TheVariants.{Checked}
use Rattle.cc_cminor_language.specs.Cminor.{Statement}
use Rattle.cc_cminor_language.specs.Pair.{AreCalls, FailsAlike, GoesWrong}
use Rattle.cc_guard.specs.Safe.{CodeConstantsFit}
use Rattle.cc_range_table.specs.Table.{Table, row_of}
use Rattle.cc_range_table.specs.Calls.{Enters, Leaves}
use Rattle.cc_range_table.specs.Inductive.{is_inductive, covers_code}

-- a function's code, in which the table is inductive
pub record IsInductiveIn (unit : List External) (table : Table) (f : ℕ) (s : Statement) : Type 0 where
  pub calls : AreCalls unit s
  pub constants : CodeConstantsFit s
  pub fails_alike : FailsAlike unit f s
  pub inductive : is_inductive (objects_in unit) table (row_of table f) s ≡ true

-- each function of a unit has code in which the table is inductive
abbrev pub IsInductive : List External → Table → Type 0
IsInductive unit table = (f : ℕ) → f < length (functions unit) → (s : Statement) × IsInductiveIn unit table f s

-- Each call of a function that is in the table is answered in the table: the result is in the row's range, each element of each object
-- in the object's range, and no object has changed that the row does not name. The meaning is the one in which a function that goes
-- wrong runs for ever, so this is no promise for calls that are never answered.
abbrev pub CallsStayInTable : Type 0
CallsStayInTable = (unit : List External) (table : Table) → IsInductive unit table → (meaning : Meaning) → IsMeaning Checked unit meaning
    → (n opened f : ℕ) (ws : List ℕ) (h : World) → opened ≤ most_open → f < length (functions unit) → IsCall meaning f ws h → Enters table f ws h
    → (a : Answer) (left : ℕ) → meaning.call n opened f ws h ≡ Gives a left → Leaves table f h a

-- a function's code, in which the table is inductive and each operation is covered; and it goes wrong if the function does
pub record IsCoveredIn (unit : List External) (table : Table) (f : ℕ) (s : Statement) : Type 0 where
  pub inductive : IsInductiveIn unit table f s
  pub covered : covers_code (objects_in unit) table (row_of table f) s ≡ true
  pub goes_wrong : GoesWrong unit f s

abbrev pub IsCovered : List External → Table → Type 0
IsCovered unit table = (f : ℕ) → f < length (functions unit) → (s : Statement) × IsCoveredIn unit table f s

-- A typed unit whose table covers all operations never goes wrong in a division, a shift or an index, on any input for which the first
-- world is in the table, and at any bound: it goes wrong only because calls are nested too deep.
abbrev pub OnlyDepthIsLeftByTable : Type 0
OnlyDepthIsLeftByTable = (source : Source) → IsTyped source.externals → (table : Table) → IsCovered source.externals table
    → (input : List ℕ) → IsWorld (objects_in source.externals) (world_of (first_shared source.externals input)) → Enters table (main_of source.externals) [] (world_of (first_shared source.externals input))
    → (n : ℕ) (cause : Cause) → (source_behavior source input n).stop ≡ Wrong cause → cause ≡ Depth
