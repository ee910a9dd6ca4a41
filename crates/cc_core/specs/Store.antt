-- The disk of the core: a journal in one of the disk's areas, written step by step. The device steps of a command, and those of a
-- rewrite, are the steps of one commit of the journal: a first write, whose bytes do not count yet; a sync; the write of the one
-- byte that puts them in force; and a sync.
use Rattle.std.specs.Prelude.{◌≡◌, ℕ, ◌+◌, ◌-◌, ◌*◌, List, [], ◌∷◌, ◌++◌, length}
use Rattle.cc_disk.specs.Model.{Cell, bytes_of, IsImage, written, synced, crashed}
use Rattle.cc_disk.specs.Images.{LeavesAlone}
use Rattle.cc_journal.specs.Format.{header, IsArea}
use Rattle.cc_journal.specs.Commit.{Commit, append_commit, area_begin, rewrite_commit}
use Rattle.cc_library.specs.Change.{LibraryCommand}
use Rattle.cc_library.specs.Apply.{Units}
use Rattle.cc_library.specs.Body.{body_of}
use Rattle.cc_library.specs.Compact.{compacted}
use Rattle.cc_core.specs.StoreState.{StoreState}
use Rattle.cc_core.specs.declared.contents.Due.{Due}
use Rattle.cc_core.specs.declared.contents.Due.TheVariants.{WriteBody, SyncBody, WriteGate, SyncGate, Acknowledge}
use Rattle.cc_core.specs.declared.contents.RewriteDue.{RewriteDue}
use Rattle.cc_core.specs.declared.contents.RewriteDue.TheVariants.{SyncAll, WriteArea, SyncArea}

-- a formatted disk: a header with area byte 0, a closed gate, and every byte settled
pub record IsFormatted (area : ℕ) (store : StoreState) : Type 0 where
  pub size : length store.cells ≡ 16 + 2 * area
  pub is_area : IsArea (length store.cells) area
  pub same_area : store.area ≡ area
  pub rest : List ℕ
  pub bytes : bytes_of store.cells ≡ header 0 area ++ (0 ∷ rest)
  pub alone : LeavesAlone (bytes_of store.cells) (IsImage store.cells)
  pub first_area : store.area_byte ≡ 0
  pub unused : store.used ≡ 0

-- the offset of the closed gate after the last record
abbrev pub gate_of : StoreState → ℕ
gate_of store = area_begin store.area_byte store.area + store.used

-- the number of bytes of the area that the records and the closed gate take once a record with this body is added
abbrev pub room_taken : StoreState → List ℕ → ℕ
room_taken store body = store.used + (length body + 6)

-- the disk with these cells
abbrev pub with_cells : StoreState → List Cell → StoreState
with_cells store cells = record store { cells = cells }

-- ---- the steps of a journal's commit

-- the disk after the first write of a commit: its bytes, written at its offset
abbrev pub first_written : Commit → StoreState → StoreState
first_written commit store = with_cells store (written store.cells commit.offset commit.bytes)

-- the disk after the second write of a commit: that of the deciding byte
abbrev pub decided : Commit → StoreState → StoreState
decided commit store = with_cells store (written store.cells commit.deciding_offset (commit.deciding_byte ∷ []))

-- the disk after a sync, which settles every byte
abbrev pub settled_all : StoreState → StoreState
settled_all store = with_cells store (synced store.cells)

-- a failed first write leaves arbitrary bytes in its range, unsettled
abbrev pub FirstFails : Commit → StoreState → StoreState → Type 0
FirstFails commit old new = (bytes : List ℕ) × (length bytes ≡ length commit.bytes) × (new ≡ with_cells old (written old.cells commit.offset bytes))

-- a failed second write leaves an arbitrary byte at its offset, unsettled
abbrev pub DecidingFails : Commit → StoreState → StoreState → Type 0
DecidingFails commit old new = (byte : ℕ) × (new ≡ with_cells old (written old.cells commit.deciding_offset (byte ∷ [])))

-- ---- the steps of a command

-- the commit that appends the record of a command
abbrev pub append_of : StoreState → LibraryCommand → Commit
append_of store command = append_commit (gate_of store) (body_of command)

-- the disk after the step that was due: the body and a closed gate after it are written; both are synced; the record's own gate
-- is written as open; this gate is synced, and the record belongs to the journal
abbrev pub stepped : Due → LibraryCommand → StoreState → StoreState
stepped WriteBody command store = first_written (append_of store command) store
stepped SyncBody command store = settled_all store
stepped WriteGate command store = decided (append_of store command) store
stepped SyncGate command store = record store { cells = synced store.cells; used = store.used + (length (body_of command) + 5) }
stepped Acknowledge command store = store

-- what is due after this step of a commit
abbrev pub due_after : Due → Due
due_after WriteBody = SyncBody
due_after SyncBody = WriteGate
due_after WriteGate = SyncGate
due_after SyncGate = Acknowledge
due_after Acknowledge = Acknowledge

-- what the step that was due leaves if it fails: a write leaves arbitrary bytes in its range, unsettled; a sync changes nothing; a reply is
-- not a device step
abbrev pub FailsTo : Due → LibraryCommand → StoreState → StoreState → Type 0
FailsTo WriteBody command old new = FirstFails (append_of old command) old new
FailsTo SyncBody command old new = new ≡ old
FailsTo WriteGate command old new = DecidingFails (append_of old command) old new
FailsTo SyncGate command old new = new ≡ old
FailsTo Acknowledge command old new = ⊥

-- ---- the steps of a rewrite

-- the commit that writes the shortest journal of a map to the area that is not in use
abbrev pub rewrite_of : StoreState → Units → Commit
rewrite_of store library = rewrite_commit store.area_byte store.area (compacted library)

-- the disk after the step that was due in a rewrite: the new area is synced; the area byte is written; the area byte is synced,
-- the new area is in use, and all bytes written there but the closed gate belong to records
abbrev pub rewrite_stepped : RewriteDue → Commit → StoreState → StoreState
rewrite_stepped SyncAll commit store = settled_all store
rewrite_stepped WriteArea commit store = decided commit store
rewrite_stepped SyncArea commit store = record store { cells = synced store.cells; area_byte = commit.deciding_byte; used = length commit.bytes - 1 }

-- what the step that was due in a rewrite leaves if it fails
abbrev pub RewriteFailsTo : RewriteDue → Commit → StoreState → StoreState → Type 0
RewriteFailsTo SyncAll commit old new = new ≡ old
RewriteFailsTo WriteArea commit old new = DecidingFails commit old new
RewriteFailsTo SyncArea commit old new = new ≡ old

-- ---- a crash

-- the disk after a crash that leaves this choice at the unsettled offsets; the next opening reads which area is in use
abbrev pub crashed_store : List ℕ → StoreState → StoreState
crashed_store choice store = with_cells store (crashed store.cells choice)
