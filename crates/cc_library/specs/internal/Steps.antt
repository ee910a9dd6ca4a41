-- The results of the steps of a replay and of a change.
use Rattle.std.specs.Prelude.{◌≡◌, ◌⊎◌, ℕ, IsOk, List, Result, Ok, Err}
use Rattle.cc_journal.specs.Format.{HoldsAlone}
use Rattle.cc_library.specs.Change.{LibraryCommand}
use Rattle.cc_library.specs.declared.fault.LibraryFault.{LibraryFault}
use Rattle.cc_library.specs.declared.fault.LibraryFault.TheVariants.{Exists, Absent, Full, DiskFault, Closed, Damaged, NotALibrary, OutOfMemory}
use Rattle.cc_library.specs.Apply.{Units, apply, after}
use Rattle.cc_library.specs.Body.{Spells}
use Rattle.cc_library.specs.Recovered.{RecoversAlone}
use Rattle.cc_library.specs.declared.command.Edit.{Edit}
use Rattle.cc_library.specs.Runs.{after_edit}

-- the replay of one more record: 37 exactly if its body does not spell a command that the map accepts
abbrev pub ReplaysBody : Units → List ℕ → Result Units LibraryFault → Type 0
ReplaysBody old body (Ok new) = (command : LibraryCommand) × Spells body command × IsOk (apply old command) × (new ≡ after old command)
ReplaysBody old body (Err Damaged) = (command : LibraryCommand) → Spells body command → IsOk (apply old command) → ⊥
ReplaysBody old body (Err OutOfMemory) = Unit {0}
ReplaysBody old body (Err DiskFault) = ⊥
ReplaysBody old body (Err NotALibrary) = ⊥
ReplaysBody old body (Err Exists) = ⊥
ReplaysBody old body (Err Absent) = ⊥
ReplaysBody old body (Err Full) = ⊥
ReplaysBody old body (Err Closed) = ⊥

-- either the image has the old records and recovers only to the old map, or it has the new records and recovers only to the new map
abbrev pub IsOldOrNew : ℕ → List (List ℕ) → Units → List (List ℕ) → Units → List ℕ → Type 0
IsOldOrNew area bodies old made new image =
    (HoldsAlone image area bodies × RecoversAlone image old) ⊎ (HoldsAlone image area made × RecoversAlone image new)

-- what a crash during an edit with this number leaves: the map before it, or, if the number is 0 or 35, the map after it
abbrev pub IsMidEdit : Units → Edit → ℕ → List ℕ → Type 0
IsMidEdit units edit number image = RecoversAlone image units ⊎ (((number ≡ 0) ⊎ (number ≡ 35)) × RecoversAlone image (after_edit units edit))
