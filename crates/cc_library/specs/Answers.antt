-- Which answer a call of a library gives and when, and what the call leaves. `before` and `after` are the numbers of failures that the disk
-- has counted before the call and after it.
use Rattle.std.specs.Prelude.{◌≡◌, length, ℕ, ◌+◌, ◌<◌, ◌≤◌, Bool, true, false, IsTrue, IsOk, List, ◌∷◌, ◌++◌, [], Option, Some, None, Result, Ok, Err, OnOk}
use Rattle.cc_disk.specs.Images.{LeavesAlone, LeavesOnly}
use Rattle.cc_disk.specs.declared.disk.Disk.{Ghosts}
use Rattle.cc_journal.specs.Commit.{Commit, FailsIn, IsCommitted, append_commit, area_begin, rewrite_commit}
use Rattle.cc_journal.specs.Format.{HasAreaByte, HasHeader, HoldsRecords, records, room_of}
use Rattle.cc_library.specs.Change.{LibraryCommand}
use Rattle.cc_library.specs.declared.fault.LibraryFault.{LibraryFault}
use Rattle.cc_library.specs.declared.fault.LibraryFault.TheVariants.{Exists, Absent, Full, DiskFault, Closed, Damaged, NotALibrary, OutOfMemory}
use Rattle.cc_library.specs.Apply.{Units, apply, after, exists, absent}
use Rattle.cc_library.specs.declared.reading.ReadFault.{ReadFault}
use Rattle.cc_library.specs.declared.reading.ReadFault.TheVariants as read
use Rattle.cc_library.specs.Body.{body_of}
use Rattle.cc_library.specs.Compact.{compacted, room_compacted}
use Rattle.cc_library.specs.Recovered.{Recovers, RecoversAlone, RecoversOneOf, StandFor, View}

-- the function returned what the definition finds, seen through `view`; if memory ran out, nothing is claimed
abbrev pub Gives : {X Y : Type 0} → (X → Y) → Result X ReadFault → Option Y → Type 0
Gives view (Ok x) found = found ≡ Some (view x)
Gives view (Err read.NoCommand) found = found ≡ None
Gives view (Err read.OutOfMemory) found = Unit {0}

-- `open`: 35 exactly if the device failed; else, if honest, 38 exactly if no header is valid, 37 exactly if one is but nothing is recovered
abbrev pub OpenFaults : (honest : Bool) (seen : List ℕ) (before after : ℕ) → LibraryFault → Type 0
OpenFaults honest seen before after DiskFault = after ≡ before + 1
OpenFaults honest seen before after NotALibrary = (after ≡ before) × (IsTrue honest → (area : ℕ) → HasHeader seen area → ⊥)
OpenFaults honest seen before after Damaged =
    (after ≡ before) × (IsTrue honest → ((area : ℕ) × HasHeader seen area) × ((units : Units) → Recovers seen units → ⊥))
OpenFaults honest seen before after OutOfMemory = after ≡ before
OpenFaults honest seen before after Exists = ⊥
OpenFaults honest seen before after Absent = ⊥
OpenFaults honest seen before after Full = ⊥
OpenFaults honest seen before after Closed = ⊥

-- a replay of records is refused with 37 exactly if they represent no map
abbrev pub ReplayFaults : List (List ℕ) → LibraryFault → Type 0
ReplayFaults bodies Damaged = (units : Units) → StandFor bodies units → ⊥
ReplayFaults bodies OutOfMemory = Unit {0}
ReplayFaults bodies DiskFault = ⊥
ReplayFaults bodies NotALibrary = ⊥
ReplayFaults bodies Exists = ⊥
ReplayFaults bodies Absent = ⊥
ReplayFaults bodies Full = ⊥
ReplayFaults bodies Closed = ⊥

module _ {D : Type 0} where
  -- the call reaches the journal: the library is not closed, and the map accepts the command
  abbrev pub IsAsked : View D → LibraryCommand → Type 0
  IsAsked old command = (old.closed ≡ false) × IsOk (apply old.units command)

  -- the number of bytes that the records would take with the command's record added
  abbrev pub room_with : View D → LibraryCommand → ℕ
  room_with old command = room_of (old.bodies ++ body_of command ∷ [])

  -- which answer a change has, and when: 36 exactly if the library was closed, then 31 or 32 exactly if the map refuses the change, then 34
  -- exactly if its record does not fit, then 35 exactly if the device failed
  abbrev pub ChangeAnswers : {T : Type 0} → View D → LibraryCommand → (before after : ℕ) → Result T LibraryFault → Type 0
  ChangeAnswers old command before after (Ok done) = IsAsked old command × (room_with old command ≤ old.area) × (after ≡ before)
  ChangeAnswers old command before after (Err Closed) = (old.closed ≡ true) × (after ≡ before)
  ChangeAnswers old command before after (Err Exists) = (old.closed ≡ false) × (apply old.units command ≡ Err exists) × (after ≡ before)
  ChangeAnswers old command before after (Err Absent) = (old.closed ≡ false) × (apply old.units command ≡ Err absent) × (after ≡ before)
  ChangeAnswers old command before after (Err Full) = IsAsked old command × (old.area < room_with old command) × (after ≡ before)
  ChangeAnswers old command before after (Err DiskFault) = IsAsked old command × (room_with old command ≤ old.area) × (after ≡ before + 1)
  ChangeAnswers old command before after (Err OutOfMemory) = IsAsked old command × (after ≡ before)
  ChangeAnswers old command before after (Err Damaged) = ⊥
  ChangeAnswers old command before after (Err NotALibrary) = ⊥

  -- what a change leaves: after Ok the map after the command; after 35 the old map, closed; after any other refusal everything as before
  abbrev pub ChangeLeaves : {T : Type 0} → LibraryCommand → (old new : View D) → Result T LibraryFault → Type 0
  ChangeLeaves command old new (Ok done) = new ≡ record { disk = new.disk; area = old.area; bodies = old.bodies ++ body_of command ∷ []; units = after old.units command; closed = false }
  ChangeLeaves command old new (Err DiskFault) = new ≡ record old { disk = new.disk; closed = true }
  ChangeLeaves command old new (Err Closed) = new ≡ old
  ChangeLeaves command old new (Err Exists) = new ≡ old
  ChangeLeaves command old new (Err Absent) = new ≡ old
  ChangeLeaves command old new (Err Full) = new ≡ old
  ChangeLeaves command old new (Err OutOfMemory) = new ≡ old
  ChangeLeaves command old new (Err Damaged) = new ≡ old
  ChangeLeaves command old new (Err NotALibrary) = new ≡ old

  -- the journal's commit of a command's record, on a disk with this area byte
  abbrev pub commit_of : (area_byte : ℕ) → View D → LibraryCommand → Commit
  commit_of area_byte old command = append_commit (area_begin area_byte old.area + length (records old.bodies)) (body_of command)

  -- what a change does to the bytes of an honest disk: after Ok the commit is made, everything is settled, and the records are the
  -- library's; after 35 the commit broke off in its first or its last write
  abbrev pub ChangesDisk : {T : Type 0} → (seen : D → List ℕ) (may_leave : D → List ℕ → Type 0) → LibraryCommand → (old new : View D) → Result T LibraryFault → Type 0
  ChangesDisk seen may_leave command old new (Ok done) =
      HoldsRecords (seen new.disk) new.area new.bodies
      × ((area_byte : ℕ) → HasAreaByte (seen old.disk) area_byte old.area → IsCommitted (commit_of area_byte old command) (seen old.disk) (seen new.disk) × LeavesAlone (seen new.disk) (may_leave new.disk))
  ChangesDisk seen may_leave command old new (Err DiskFault) =
      (area_byte : ℕ) → HasAreaByte (seen old.disk) area_byte old.area → FailsIn (commit_of area_byte old command) (seen old.disk) (may_leave new.disk)
  ChangesDisk seen may_leave command old new (Err Closed) = Unit {0}
  ChangesDisk seen may_leave command old new (Err Exists) = Unit {0}
  ChangesDisk seen may_leave command old new (Err Absent) = Unit {0}
  ChangesDisk seen may_leave command old new (Err Full) = Unit {0}
  ChangesDisk seen may_leave command old new (Err OutOfMemory) = Unit {0}
  ChangesDisk seen may_leave command old new (Err Damaged) = Unit {0}
  ChangesDisk seen may_leave command old new (Err NotALibrary) = Unit {0}

  -- `compact`: first 36 exactly if it is closed, then 34 exactly if the compacted records do not fit, then 35 exactly if the device failed
  abbrev pub CompactAnswers : {T : Type 0} → View D → (before after : ℕ) → Result T LibraryFault → Type 0
  CompactAnswers old before after (Ok done) = (old.closed ≡ false) × (room_of (compacted old.units) ≤ old.area) × (after ≡ before)
  CompactAnswers old before after (Err Closed) = (old.closed ≡ true) × (after ≡ before)
  CompactAnswers old before after (Err Full) = (old.closed ≡ false) × (old.area < room_of (compacted old.units)) × (after ≡ before)
  CompactAnswers old before after (Err DiskFault) = (old.closed ≡ false) × (room_of (compacted old.units) ≤ old.area) × (after ≡ before + 1)
  CompactAnswers old before after (Err OutOfMemory) = (old.closed ≡ false) × (after ≡ before)
  CompactAnswers old before after (Err Exists) = ⊥
  CompactAnswers old before after (Err Absent) = ⊥
  CompactAnswers old before after (Err Damaged) = ⊥
  CompactAnswers old before after (Err NotALibrary) = ⊥

  -- what `compact` leaves, apart from the disk: after Ok the compacted records; after 35 the old ones, closed; after any other refusal
  -- everything is as before, including the disk; the map is always the same
  abbrev pub CompactLeaves : {T : Type 0} → (old new : View D) → Result T LibraryFault → Type 0
  CompactLeaves old new (Ok done) = new ≡ record old { disk = new.disk; bodies = compacted old.units; closed = false }
  CompactLeaves old new (Err DiskFault) = new ≡ record old { disk = new.disk; closed = true }
  CompactLeaves old new (Err Closed) = new ≡ old
  CompactLeaves old new (Err Exists) = new ≡ old
  CompactLeaves old new (Err Absent) = new ≡ old
  CompactLeaves old new (Err Full) = new ≡ old
  CompactLeaves old new (Err OutOfMemory) = new ≡ old
  CompactLeaves old new (Err Damaged) = new ≡ old
  CompactLeaves old new (Err NotALibrary) = new ≡ old

  -- the change is refused with 34 now, but would not be after a `compact`: its record does not fit, but fits after the compacted records
  abbrev pub IsMended : View D → LibraryCommand → Type 0
  IsMended old command = IsAsked old command × (old.area < room_with old command) × (room_compacted old.units command ≤ old.area)

  -- the journal's commit of the compacted records, on a disk with this area byte
  abbrev pub rewrites_in : (area_byte : ℕ) → View D → Commit
  rewrites_in area_byte old = rewrite_commit area_byte old.area (compacted old.units)

  -- what `compact` does to the bytes of an honest disk
  abbrev pub CompactsDisk : {T : Type 0} → (seen : D → List ℕ) (may_leave : D → List ℕ → Type 0) → (old new : View D) → Result T LibraryFault → Type 0
  CompactsDisk seen may_leave old new (Ok done) =
      HoldsRecords (seen new.disk) new.area new.bodies
      × ((area_byte : ℕ) → HasAreaByte (seen old.disk) area_byte old.area → IsCommitted (rewrites_in area_byte old) (seen old.disk) (seen new.disk) × LeavesAlone (seen new.disk) (may_leave new.disk))
  CompactsDisk seen may_leave old new (Err DiskFault) =
      (area_byte : ℕ) → HasAreaByte (seen old.disk) area_byte old.area → FailsIn (rewrites_in area_byte old) (seen old.disk) (may_leave new.disk)
  CompactsDisk seen may_leave old new (Err Closed) = Unit {0}
  CompactsDisk seen may_leave old new (Err Exists) = Unit {0}
  CompactsDisk seen may_leave old new (Err Absent) = Unit {0}
  CompactsDisk seen may_leave old new (Err Full) = Unit {0}
  CompactsDisk seen may_leave old new (Err OutOfMemory) = Unit {0}
  CompactsDisk seen may_leave old new (Err Damaged) = Unit {0}
  CompactsDisk seen may_leave old new (Err NotALibrary) = Unit {0}

-- What a change promises on this kind of disk, with `Holds` for what a crash of an honest disk may leave.
pub record IsChangedAs {Disk : Type 0} (D : Ghosts Disk) (command : LibraryCommand) (old new : View Disk) (result : Result (Unit {0}) LibraryFault) (Holds : List ℕ → Type 0) : Type 0 where
  pub answers : ChangeAnswers old command (D.failures old.disk) (D.failures new.disk) result
  pub leaves : ChangeLeaves command old new result
  pub size : D.size new.disk ≡ D.size old.disk
  -- what the call does to the disk's bytes
  pub disk : IsTrue D.honest → ChangesDisk D.seen D.may_leave command old new result
  -- after Ok every image recovers to the new map
  pub kept : OnOk result (IsTrue D.honest → (image : List ℕ) → D.may_leave new.disk image → RecoversAlone image new.units)
  -- what a crash at any moment of the call leaves
  pub moments : IsTrue D.honest → old.closed ≡ false → LeavesOnly D.moment D.left_since old.disk new.disk Holds
  -- so `Holds` is true of every image, whatever the answer, even 35
  pub images : IsTrue D.honest → old.closed ≡ false → (image : List ℕ) → D.may_leave new.disk image → Holds image

-- what a change promises: a crash leaves the map before the change or the map after it
abbrev pub IsChanged : {Disk : Type 0} (D : Ghosts Disk) → LibraryCommand → (old new : View Disk) → Result (Unit {0}) LibraryFault → Type 0
IsChanged D command old new result = IsChangedAs D command old new result (RecoversOneOf old.units (after old.units command))

-- What a compaction promises on this kind of disk, with `Holds` for what a crash of an honest disk may leave.
pub record IsCompactedAs {Disk : Type 0} (D : Ghosts Disk) (old new : View Disk) (result : Result (Unit {0}) LibraryFault) (Holds : List ℕ → Type 0) : Type 0 where
  pub answers : CompactAnswers old (D.failures old.disk) (D.failures new.disk) result
  pub leaves : CompactLeaves old new result
  pub size : D.size new.disk ≡ D.size old.disk
  -- what the call does to the disk's bytes
  pub disk : IsTrue D.honest → CompactsDisk D.seen D.may_leave old new result
  -- what a crash at any moment of the call leaves
  pub moments : IsTrue D.honest → old.closed ≡ false → LeavesOnly D.moment D.left_since old.disk new.disk Holds
  -- so `Holds` is true of every image, whatever the answer, even 35
  pub images : IsTrue D.honest → old.closed ≡ false → (image : List ℕ) → D.may_leave new.disk image → Holds image

-- what a compaction promises: a crash leaves the map as it is
abbrev pub IsCompacted : {Disk : Type 0} (D : Ghosts Disk) → (old new : View Disk) → Result (Unit {0}) LibraryFault → Type 0
IsCompacted D old new result = IsCompactedAs D old new result (λ image. RecoversAlone image old.units)
