-- The commands whose records are on a disk, and what each stored.
use Rattle.std.specs.Prelude.{ℕ, zero, suc, List, Option, Some, None, option_and_then, slice_get, if◌then◌else◌}
use Rattle.std.specs.Str.{bytes_eq}
use Rattle.std.specs.FinMap.{empty}
use Rattle.cc_journal.specs.Format.{HoldsRecords}
use Rattle.cc_unit.specs.declared.unit.StoredUnit.{StoredUnit}
use Rattle.cc_library.specs.Change.{LibraryCommand}
use Rattle.cc_library.specs.declared.command.Change.TheVariants.{Add, Replace, Withdraw}
use Rattle.cc_library.specs.Apply.{AreAccepted}
use Rattle.cc_library.specs.Recovered.{AreSpelled}

-- the bodies spell these commands, and each is accepted by the map that those before it made, beginning with the empty map
pub record AreRead (bodies : List (List ℕ)) (commands : List LibraryCommand) : Type 0 where
  pub spelled : AreSpelled bodies commands
  pub accepted : AreAccepted empty commands

-- An image has the records of exactly these commands, in order. So it recovers to their `library_of`, and the map before the
-- command with a given number is the `library_of` of the commands before it.
pub record HasCommands (image : List ℕ) (commands : List LibraryCommand) : Type 0 where
  pub area : ℕ
  pub bodies : List (List ℕ)
  pub holds : HoldsRecords image area bodies
  pub read : AreRead bodies commands

-- the unit that a command stored under this name, if it stored one there
abbrev pub stored_by : LibraryCommand → (name : List ℕ) → Option StoredUnit
stored_by (Add other unit) name = if bytes_eq other name then Some unit else None
stored_by (Replace other unit) name = if bytes_eq other name then Some unit else None
stored_by (Withdraw other) name = None

-- the unit that the command with this number, counted from 1, stored under this name, if it stored one there
abbrev pub stored_at : List LibraryCommand → (name : List ℕ) → (number : ℕ) → Option StoredUnit
stored_at commands name zero = None
stored_at commands name (suc before) = option_and_then (λ command. stored_by command name) (slice_get commands before)
