-- What a step requires of the state; every state that is reached meets this.
use Rattle.std.specs.Prelude.{◌≡◌, ◌⊎◌, ℕ, ◌≤◌, ◌+◌, ◌^◌, List, [], ◌∷◌, ◌++◌, length, Some, None}
use Rattle.std.specs.FinMap.{get, empty}
use Rattle.cc_disk.specs.Model.{bytes_of, IsImage}
use Rattle.cc_disk.specs.Images.{LeavesAlone}
use Rattle.cc_journal.specs.Commit.{Commit}
use Rattle.cc_journal.specs.Format.{HoldsAlone, room_of}
use Rattle.cc_library.specs.Change.{LibraryCommand}
use Rattle.cc_library.specs.declared.command.Change.TheVariants.{Add, Replace, Withdraw}
use Rattle.cc_library.specs.Apply.{Units, AreAccepted, library_of}
use Rattle.cc_library.specs.Body.{body_of}
use Rattle.cc_library.specs.Compact.{compacted}
use Rattle.cc_library.specs.Recovered.{StandFor}
use Rattle.cc_core.specs.declared.command.Numbered.{Numbered}
use Rattle.cc_core.specs.declared.contents.Core.{Core}
use Rattle.cc_core.specs.declared.contents.Due.{Due}
use Rattle.cc_core.specs.declared.contents.Due.TheVariants.{WriteBody, SyncBody, WriteGate, SyncGate, Acknowledge}
use Rattle.cc_core.specs.declared.contents.Phase.{Phase}
use Rattle.cc_core.specs.declared.contents.Phase.TheVariants.{Idle, Committing, Rewriting, Failed, Crashed}
use Rattle.cc_core.specs.Step.{commands}
use Rattle.cc_core.specs.StoreState.{StoreState}
use Rattle.cc_core.specs.Store.{room_taken}

-- the record of this command fits in the area
abbrev pub IsFitting : StoreState → LibraryCommand → Type 0
IsFitting store command = (room_taken store (body_of command) ≤ store.area) × (store.area ≤ 2 ^ 30)

-- until its record belongs to the journal, a command in commit has room in the area
abbrev pub HasRoom : Due → StoreState → LibraryCommand → Type 0
HasRoom WriteBody store command = IsFitting store command
HasRoom SyncBody store command = IsFitting store command
HasRoom WriteGate store command = IsFitting store command
HasRoom SyncGate store command = IsFitting store command
HasRoom Acknowledge store command = Unit {0}

-- this is the library of the order, or of the order without its last command
abbrev pub IsOfOrder : Units → List Numbered → Type 0
IsOfOrder library order =
    (library ≡ library_of (commands order))
    ⊎ ((prefix : List Numbered) × (last : Numbered) × (order ≡ prefix ++ last ∷ []) × (library ≡ library_of (commands prefix)))

-- the disk holds records that represent a library of the order, and every byte is settled
pub record IsRecoverable (store : StoreState) (order : List Numbered) : Type 0 where
  pub alone : LeavesAlone (bytes_of store.cells) (IsImage store.cells)
  pub bodies : List (List ℕ)
  pub library : Units
  pub holds : HoldsAlone (bytes_of store.cells) store.area bodies
  pub stand : StandFor bodies library
  pub accepted : AreAccepted empty (commands order)
  pub known : IsOfOrder library order

-- both writes of a commit lie within the disk
pub record IsWithin (commit : Commit) (store : StoreState) : Type 0 where
  pub first : commit.offset + length commit.bytes ≤ length store.cells
  pub second : commit.deciding_offset + 1 ≤ length store.cells

-- both writes of a rewrite lie within the disk, the first one contains at least a closed gate, and everything fits in an
-- area
pub record IsRewrite (commit : Commit) (store : StoreState) : Type 0 where
  pub within : IsWithin commit store
  pub some : 1 ≤ length commit.bytes
  pub room : length commit.bytes ≤ store.area

-- what each phase requires of the other parts of the state
abbrev pub IsReadyIn : Phase → Units → StoreState → List Numbered → Type 0
IsReadyIn Idle library store order = room_of (compacted library) ≤ store.area
IsReadyIn (Committing client numbered due) library store order = HasRoom due store numbered.command
IsReadyIn (Rewriting commit due) library store order = IsRewrite commit store
IsReadyIn (Failed failed) library store order = Unit {0}
IsReadyIn Crashed library store order = IsRecoverable store order

-- what a step requires of the state
abbrev pub IsReady : Core → Type 0
IsReady s = IsReadyIn s.phase s.library s.store s.order

-- the command is in effect: the library is as the command leaves it
abbrev pub IsInEffect : Units → LibraryCommand → Type 0
IsInEffect library (Add name unit) = get library name ≡ Some unit
IsInEffect library (Replace name unit) = get library name ≡ Some unit
IsInEffect library (Withdraw name) = get library name ≡ None

-- the whole order is kept if it is empty or its last command is in effect; else all but the last command are kept
abbrev pub IsPrefixKept : Units → List Numbered → List Numbered → Type 0
IsPrefixKept library old new =
    ((new ≡ old) × ((prefix : List Numbered) (last : Numbered) → old ≡ prefix ++ last ∷ [] → IsInEffect library last.command))
    ⊎ ((last : Numbered) × (old ≡ new ++ last ∷ []) × (IsInEffect library last.command → ⊥))
