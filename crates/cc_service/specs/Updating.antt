-- What an update answers: a new unit replaces the one under a name if the old unit's source is the expected one. An update is a look-up of
-- the name and then the change, with no other call in between: the look-up leaves the book's library as it was, and in the history the
-- change comes right after the look-up.
use Rattle.std.specs.Prelude.{◌≡◌, ◌≢◌, ◌⊎◌, ℕ, ◌+◌, true, false, IsTrue, List, Some, None, Result, Ok, Err}
use Rattle.std.specs.FinMap.{get}
use Rattle.cc_disk.specs.declared.disk.Disk.{Ghosts}
use Rattle.cc_library.specs.unit.StoredUnit.{StoredUnit}
use Rattle.cc_library.specs.Name.{is_name}
use Rattle.cc_c_semantics.specs.declared.mode.Mode.{Mode}
use Rattle.cc_history.specs.Calls.{Command}
use Rattle.cc_history.specs.declared.command.Asked.TheVariants.{Fetch}
use Rattle.cc_history.specs.declared.entry.Receipt.{Receipt}
use Rattle.cc_history.specs.declared.reply.Reply.TheVariants as reply
use Rattle.cc_history.specs.declared.standing.StandingFault.TheVariants as standing
use Rattle.cc_history.specs.History.{MemberView, IsAnswered}
use Rattle.cc_history.specs.Standing.{IsStranger}
use Rattle.cc_recorded.specs.Answers.{LookAnswers}
use Rattle.cc_recorded.specs.Book.{BookView}
use Rattle.cc_recorded.specs.Changed.{IsBookChanged}
use Rattle.cc_recorded.specs.Compacting.{IsCompactedFor}
use Rattle.cc_recorded.specs.declared.fault.BookFault.{BookFault}
use Rattle.cc_recorded.specs.declared.fault.BookFault.TheVariants as book
use Rattle.cc_service.specs.Compiling.{IsCompileRefusal, IsProgram}
use Rattle.cc_service.specs.Serving.{IsEntered, IsOfAnother, Replaces}
use Rattle.cc_service.specs.declared.fault.ServiceFault.{ServiceFault}
use Rattle.cc_service.specs.declared.fault.ServiceFault.TheVariants.{Opening, TooManyClients, BadName, Text, Piece, WorkersGone, ImageTooLarge, Book, OutOfMemory, Changed}

-- ---- for a book

module _ {Disk : Type 0} (D : Ghosts Disk) where
  -- The look-up found that the name's unit has the expected source, and left the library as it was; the change came next, with this answer.
  pub record IsUpdate (before : BookView Disk) (old : MemberView) (name expected : List ℕ) (command : Command) (after : BookView Disk) (new : MemberView) (answer : Result Receipt BookFault) : Type 0 where
    pub seen : Receipt
    pub between : BookView Disk
    pub heard : MemberView
    pub looked : LookAnswers before old (Fetch name) between heard (Ok seen)
    pub unit : StoredUnit
    pub found : get before.library.units name ≡ Some unit
    pub same : unit.source ≡ expected
    pub changed : IsBookChanged D between heard command after new answer ⊎ IsCompactedFor D between heard command after new answer

  -- The name's unit has another source: the look-up is in the history, and nothing else changes.
  pub record IsOtherThere (before : BookView Disk) (old : MemberView) (name expected : List ℕ) (after : BookView Disk) (new : MemberView) (seen : Receipt) : Type 0 where
    pub looked : LookAnswers before old (Fetch name) after new (Ok seen)
    pub unit : StoredUnit
    pub found : get before.library.units name ≡ Some unit
    pub other : unit.source ≢ expected

  -- In this order: 36 exactly if the device has failed before, 39 exactly if the client's last receipt does not match the history, 32
  -- exactly if the name has no unit, 60 exactly if its unit has another source, then what the change answers: 34, 35. The look-up or the
  -- change may also answer 40.
  abbrev pub UpdatesBook : (before : BookView Disk) (old : MemberView) (name expected : List ℕ) → Command → (after : BookView Disk) (new : MemberView) → Result Receipt ServiceFault → Type 0
  UpdatesBook before old name expected command after new (Ok receipt) = (before.library.closed ≡ false) × IsUpdate before old name expected command after new (Ok receipt)
  UpdatesBook before old name expected command after new (Err (Changed seen)) = (before.library.closed ≡ false) × IsOtherThere before old name expected after new seen
  UpdatesBook before old name expected command after new (Err (Book book.Closed)) = (before.library.closed ≡ true) × (after ≡ before) × (new ≡ old)
  UpdatesBook before old name expected command after new (Err (Book (book.Estranged number found))) =
      (before.library.closed ≡ false) × IsStranger before.history old.receipts (standing.Estranged number found) × (after ≡ before) × (new ≡ old)
  UpdatesBook before old name expected command after new (Err (Book (book.Absent seen))) =
      (before.library.closed ≡ false) × LookAnswers before old (Fetch name) after new (Ok seen) × (get before.library.units name ≡ None)
  UpdatesBook before old name expected command after new (Err (Book book.Full)) = (before.library.closed ≡ false) × IsUpdate before old name expected command after new (Err book.Full)
  UpdatesBook before old name expected command after new (Err (Book book.DiskFault)) =
      (before.library.closed ≡ false) × IsUpdate before old name expected command after new (Err book.DiskFault)
  UpdatesBook before old name expected command after new (Err (Book book.OutOfMemory)) =
      (before.library.closed ≡ false) × (((after ≡ before) × (new ≡ old)) ⊎ IsUpdate before old name expected command after new (Err book.OutOfMemory))
  UpdatesBook before old name expected command after new (Err (Book (book.Exists receipt))) = ⊥
  UpdatesBook before old name expected command after new (Err (Opening f)) = ⊥
  UpdatesBook before old name expected command after new (Err TooManyClients) = ⊥
  UpdatesBook before old name expected command after new (Err BadName) = ⊥
  UpdatesBook before old name expected command after new (Err (Text f)) = ⊥
  UpdatesBook before old name expected command after new (Err (Piece function f)) = ⊥
  UpdatesBook before old name expected command after new (Err WorkersGone) = ⊥
  UpdatesBook before old name expected command after new (Err ImageTooLarge) = ⊥
  UpdatesBook before old name expected command after new (Err OutOfMemory) = ⊥

-- ---- as the client sees it

-- the name's unit was looked up and found, `Holds` is true of its source, and the receipt is the client's last
pub record HasFound (name : List ℕ) (Holds : (source : List ℕ) → Type 0) (old new : MemberView) (seen : Receipt) : Type 0 where
  pub unit : StoredUnit
  pub holds : Holds unit.source
  pub answered : IsAnswered old (Fetch name) (reply.Unit unit) new seen

-- The look-up found the expected source, and the change is the next entry after it: no other client's call is between these two.
pub record IsUpdated (Asks : Command → Type 0) (name expected : List ℕ) (old new : MemberView) (receipt : Receipt) : Type 0 where
  pub seen : Receipt
  pub heard : MemberView
  pub found : HasFound name (λ source. source ≡ expected) old heard seen
  pub entered : IsEntered Asks heard reply.Done new receipt
  pub next : receipt.number ≡ seen.number + 1

-- the unit was found with the expected source, and no change was made
abbrev pub HasLooked : (name expected : List ℕ) (old new : MemberView) → Type 0
HasLooked name expected old new = (seen : Receipt) × HasFound name (λ source. source ≡ expected) old new seen

-- how the book refuses an update: 36, 39 before the look-up; 32 with its receipt; 34, 35 after it found the expected source; 40 at any time
abbrev pub IsNotUpdated : (name expected : List ℕ) (old new : MemberView) → BookFault → Type 0
IsNotUpdated name expected old new (book.Absent seen) = IsAnswered old (Fetch name) reply.Absent new seen
IsNotUpdated name expected old new (book.Estranged number found) = IsOfAnother old number found × (new ≡ old)
IsNotUpdated name expected old new book.Full = HasLooked name expected old new
IsNotUpdated name expected old new book.DiskFault = HasLooked name expected old new
IsNotUpdated name expected old new book.Closed = new ≡ old
IsNotUpdated name expected old new book.OutOfMemory = (new ≡ old) ⊎ HasLooked name expected old new
IsNotUpdated name expected old new (book.Exists receipt) = ⊥

-- The answer to `update`: 33 exactly if the bytes are not a name; then, for a name, why the text was not compiled; then, for a program,
-- what the book answers; 60 has the receipt of the look-up that found another source.
abbrev pub UpdateAnswers : Mode → (name expected source : List ℕ) (old new : MemberView) → Result Receipt ServiceFault → Type 0
UpdateAnswers mode name expected source old new (Ok receipt) = IsTrue (is_name name) × IsProgram source × IsUpdated (Replaces mode name source) name expected old new receipt
UpdateAnswers mode name expected source old new (Err BadName) = (¬ IsTrue (is_name name)) × (new ≡ old)
UpdateAnswers mode name expected source old new (Err (Text f)) = IsTrue (is_name name) × IsCompileRefusal mode source (Text f) × (new ≡ old)
UpdateAnswers mode name expected source old new (Err (Piece function f)) = IsTrue (is_name name) × IsCompileRefusal mode source (Piece function f) × (new ≡ old)
UpdateAnswers mode name expected source old new (Err WorkersGone) = IsTrue (is_name name) × IsCompileRefusal mode source WorkersGone × (new ≡ old)
UpdateAnswers mode name expected source old new (Err ImageTooLarge) = IsTrue (is_name name) × IsCompileRefusal mode source ImageTooLarge × (new ≡ old)
UpdateAnswers mode name expected source old new (Err OutOfMemory) = IsTrue (is_name name) × (new ≡ old)
UpdateAnswers mode name expected source old new (Err (Book f)) = IsTrue (is_name name) × IsProgram source × IsNotUpdated name expected old new f
UpdateAnswers mode name expected source old new (Err (Changed seen)) =
    IsTrue (is_name name) × IsProgram source × HasFound name (λ stored. stored ≢ expected) old new seen
UpdateAnswers mode name expected source old new (Err (Opening f)) = ⊥
UpdateAnswers mode name expected source old new (Err TooManyClients) = ⊥
