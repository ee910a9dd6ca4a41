-- Which answer a commit gives, and what it leaves. The answers, in this order: 36 exactly if the device has failed before, 39 exactly if
-- the client's last receipt does not match the history, 31 and 32 exactly if the map refuses, 34 exactly if the record does not fit, 35
-- exactly if the device failed in the call.
use Rattle.std.specs.Prelude.{◌≡◌, ◌≢◌, ◌⊎◌, length, slice_get, Some, None, ℕ, ◌+◌, ◌<◌, ◌≤◌, true, false, IsOk, List, [], ◌∷◌, ◌++◌, Result, Ok, Err}
use Rattle.cc_library.specs.Apply.{apply, after}
use Rattle.cc_library.specs.Body.{body_of}
use Rattle.cc_library.specs.Answers.{room_with}
use Rattle.cc_library.specs.Recovered.{View}
use Rattle.cc_library.specs.Space.{IsSpace}
use Rattle.cc_library.specs.declared.space.SpaceUse.{SpaceUse}
use Rattle.cc_history.specs.declared.command.Asked.{Asked}
use Rattle.cc_history.specs.declared.command.Asked.TheVariants.{Change, Fetch, Names}
use Rattle.cc_history.specs.declared.entry.Receipt.{Receipt}
use Rattle.cc_history.specs.declared.reply.Reply.{Reply}
use Rattle.cc_history.specs.declared.reply.Reply.TheVariants as reply
use Rattle.cc_history.specs.declared.standing.StandingFault.TheVariants as standing
use Rattle.cc_history.specs.Calls.{Command, reply_of}
use Rattle.cc_library.specs.Compact.{compacted}
use Rattle.cc_journal.specs.Format.{room_of}
use Rattle.cc_history.specs.History.{AllStand, MemberView, IsRecorded, LastStands}
use Rattle.cc_history.specs.declared.entry.Entry.{Entry}
use Rattle.cc_history.specs.declared.standing.StandingFault.{StandingFault}
use Rattle.cc_history.specs.Standing.{IsFirstAstray, IsStranger}
use Rattle.cc_history.specs.Closing.{AreApart}
use Rattle.cc_recorded.specs.Fault.{fault_of}
use Rattle.cc_recorded.specs.declared.fault.BookFault.{BookFault}
use Rattle.cc_recorded.specs.declared.fault.BookFault.TheVariants.{Exists, Absent, Full, DiskFault, Closed, Estranged, OutOfMemory}
use Rattle.cc_recorded.specs.Book.{BookView, chronicle_of}

-- a call that asks for a unit or for all names
abbrev pub IsLook : Asked → Type 0
IsLook (Change command) = ⊥
IsLook (Fetch name) = Unit {0}
IsLook Names = Unit {0}

-- why a service is not ended: memory ran out; or a receipt does not match the history (the first such one); or these are not all clients
abbrev pub IsNotClosed : (history : List Entry) (made : ℕ) → List MemberView → BookFault → Type 0
IsNotClosed history made clients fault =
    (fault ≡ OutOfMemory)
    ⊎ (((i : ℕ) × (client : MemberView) × (why : StandingFault) × (slice_get clients i ≡ Some client) × (fault ≡ fault_of why)
    × ((j : ℕ) (earlier : MemberView) → j < i → slice_get clients j ≡ Some earlier → AllStand history earlier.receipts) × IsFirstAstray history client.receipts why)
    ⊎ ((fault ≡ Estranged (length history) None) × ((length clients ≢ made) ⊎ (¬ AreApart clients))))

module _ {D : Type 0} where
  -- no call has been made: the base is the map, and the library is usable
  pub record IsBegun (book : BookView D) : Type 0 where
    pub base : book.base ≡ book.library.units
    pub usable : book.library.closed ≡ false
    pub history : book.history ≡ []
    pub failed : book.failed ≡ []

  -- the call reaches the library: the device has not failed, the client's last receipt matches, and the map accepts the command
  pub record IsAsked (before : BookView D) (old : MemberView) (command : Command) : Type 0 where
    pub idle : before.library.closed ≡ false
    pub stands : LastStands before.history old.receipts
    pub accepted : IsOk (apply before.library.units command)

  -- the map refuses the command: the call is in the history with that reply, and nothing else changes
  pub record IsRefused (before : BookView D) (old : MemberView) (command : Command) (answer : Reply) (after : BookView D) (new : MemberView) (receipt : Receipt) : Type 0 where
    pub idle : before.library.closed ≡ false
    pub recorded : IsRecorded (chronicle_of before) old (Change command) answer (chronicle_of after) new receipt
    pub library : after.library ≡ before.library
    pub failed : after.failed ≡ before.failed

  -- the library once the command is done, with its record added
  abbrev pub done_in : View D → Command → D → View D
  done_in library command disk =
      record { disk = disk; area = library.area; bodies = library.bodies ++ body_of command ∷ []; units = after library.units command; closed = false }

  -- the command is done: the call is in the history with that answer, and the library has its record
  pub record IsDone (before : BookView D) (old : MemberView) (command : Command) (after : BookView D) (new : MemberView) (receipt : Receipt) : Type 0 where
    pub asked : IsAsked before old command
    pub fits : room_with before.library command ≤ before.library.area
    pub recorded : IsRecorded (chronicle_of before) old (Change command) reply.Done (chronicle_of after) new receipt
    pub library : after.library ≡ done_in before.library command after.library.disk
    pub failed : after.failed ≡ before.failed

  -- the book after the device has failed in a change
  abbrev pub failed_in : BookView D → Command → D → BookView D
  failed_in before command disk = record before { library = record before.library { disk = disk; closed = true }; failed = command ∷ [] }

  -- the answer to a commit, and what the commit leaves; `failures` is the number of failed calls that the disk has counted
  abbrev pub CommitAnswers : (failures : D → ℕ) (before : BookView D) (old : MemberView) → Command → (after : BookView D) (new : MemberView) → Result Receipt BookFault → Type 0
  CommitAnswers failures before old command after new (Ok receipt) =
      IsDone before old command after new receipt × (failures after.library.disk ≡ failures before.library.disk)
  CommitAnswers failures before old command after new (Err (Exists receipt)) = IsRefused before old command reply.Exists after new receipt
  CommitAnswers failures before old command after new (Err (Absent receipt)) = IsRefused before old command reply.Absent after new receipt
  CommitAnswers failures before old command after new (Err Closed) = (before.library.closed ≡ true) × (after ≡ before) × (new ≡ old)
  CommitAnswers failures before old command after new (Err (Estranged number found)) =
      (before.library.closed ≡ false) × IsStranger before.history old.receipts (standing.Estranged number found) × (after ≡ before) × (new ≡ old)
  CommitAnswers failures before old command after new (Err Full) =
      IsAsked before old command × (before.library.area < room_with before.library command) × (after ≡ before) × (new ≡ old)
  CommitAnswers failures before old command after new (Err DiskFault) =
      IsAsked before old command × (room_with before.library command ≤ before.library.area)
      × (failures after.library.disk ≡ failures before.library.disk + 1) × (after ≡ failed_in before command after.library.disk) × (new ≡ old)
  CommitAnswers failures before old command after new (Err OutOfMemory) = (before.library.closed ≡ false) × (after ≡ before) × (new ≡ old)

  -- the answer to a look-up, and what it leaves: the call is in the history with the reply that a single thread would get there, and
  -- nothing else changes; 39 exactly if the client's last receipt does not match the history; the only other fault is 40
  abbrev pub LookAnswers : (before : BookView D) (old : MemberView) → Asked → (after : BookView D) (new : MemberView) → Result Receipt BookFault → Type 0
  LookAnswers before old asked after new (Ok receipt) =
      IsRecorded (chronicle_of before) old asked (reply_of before.library.units asked) (chronicle_of after) new receipt
      × (after.library ≡ before.library) × (after.failed ≡ before.failed)
  LookAnswers before old asked after new (Err (Estranged number found)) =
      IsStranger before.history old.receipts (standing.Estranged number found) × (after ≡ before) × (new ≡ old)
  LookAnswers before old asked after new (Err OutOfMemory) = (after ≡ before) × (new ≡ old)
  LookAnswers before old asked after new (Err (Exists receipt)) = ⊥
  LookAnswers before old asked after new (Err (Absent receipt)) = ⊥
  LookAnswers before old asked after new (Err Full) = ⊥
  LookAnswers before old asked after new (Err Closed) = ⊥
  LookAnswers before old asked after new (Err DiskFault) = ⊥

  -- the answer to a compaction, and what it leaves: the history and the map are unchanged; 36 exactly if the device has failed before, then
  -- 34 exactly if the new records do not fit, then 35 exactly if the device failed in the call
  abbrev pub CompactAnswers : {T : Type 0} → (failures : D → ℕ) (before after : BookView D) → Result T BookFault → Type 0
  CompactAnswers failures before after (Ok done) =
      (before.library.closed ≡ false) × (room_of (compacted before.library.units) ≤ before.library.area) × (failures after.library.disk ≡ failures before.library.disk)
      × (after ≡ record before { library = record before.library { disk = after.library.disk; bodies = compacted before.library.units; closed = false } })
  CompactAnswers failures before after (Err Closed) = (before.library.closed ≡ true) × (after ≡ before)
  CompactAnswers failures before after (Err Full) =
      (before.library.closed ≡ false) × (before.library.area < room_of (compacted before.library.units)) × (after ≡ before)
  CompactAnswers failures before after (Err DiskFault) =
      (before.library.closed ≡ false) × (room_of (compacted before.library.units) ≤ before.library.area) × (failures after.library.disk ≡ failures before.library.disk + 1)
      × (after ≡ record before { library = record before.library { disk = after.library.disk; closed = true } })
  CompactAnswers failures before after (Err OutOfMemory) = (before.library.closed ≡ false) × (after ≡ before)
  CompactAnswers failures before after (Err (Exists receipt)) = ⊥
  CompactAnswers failures before after (Err (Absent receipt)) = ⊥
  CompactAnswers failures before after (Err (Estranged number found)) = ⊥

  -- what `space` answers: how much of its area the library takes; 36 exactly if the device has failed before
  abbrev pub SpaceAnswers : BookView D → Result SpaceUse BookFault → Type 0
  SpaceAnswers book (Ok space) = (book.library.closed ≡ false) × IsSpace book.library.area book.library.bodies book.library.units space
  SpaceAnswers book (Err fault) = (fault ≡ Closed) × (book.library.closed ≡ true)
