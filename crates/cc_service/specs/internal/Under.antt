-- What is answered under the lock, as the client sees it.
use Rattle.std.specs.Prelude.{◌≡◌, ◌≢◌, ◌⊎◌, ℕ, List, Result, Ok, Err}
use Rattle.cc_disk.specs.declared.disk.Disk.{Ghosts}
use Rattle.cc_library.specs.Apply.{Units}
use Rattle.cc_history.specs.declared.command.Asked.{Asked}
use Rattle.cc_history.specs.Calls.{Command, reply_of}
use Rattle.cc_history.specs.declared.entry.Receipt.{Receipt}
use Rattle.cc_history.specs.declared.reply.Reply.TheVariants as reply
use Rattle.cc_history.specs.History.{MemberView, IsAnswered}
use Rattle.cc_service.specs.declared.fault.ServiceFault.{ServiceFault}
use Rattle.cc_service.specs.declared.fault.ServiceFault.TheVariants.{Opening, TooManyClients, BadName, Text, Piece, WorkersGone, ImageTooLarge, Book, OutOfMemory, Changed}
use Rattle.cc_recorded.specs.Book.{BookView}
use Rattle.cc_recorded.specs.Changed.{IsBookChanged}
use Rattle.cc_recorded.specs.Compacting.{IsCompactedFor}
use Rattle.cc_recorded.specs.declared.fault.BookFault.{BookFault}
use Rattle.cc_recorded.specs.declared.fault.BookFault.TheVariants as book
use Rattle.cc_service.specs.Serving.{IsEntered, IsTurnedDown}
use Rattle.cc_service.specs.Updating.{HasFound, IsNotUpdated, IsUpdated}
use Rattle.cc_library.specs.unit.StoredUnit.{StoredUnit}
use Rattle.cc_history.specs.declared.reply.Reply.{Reply}
use Rattle.cc_service.specs.declared.asking.Compared.{Compared}
use Rattle.cc_service.specs.declared.asking.Compared.TheVariants as compared

-- what the client sees of the answer to this change
abbrev pub MakesAnswers : Command → (old new : MemberView) → Result Receipt ServiceFault → Type 0
MakesAnswers command old new (Ok receipt) = IsEntered (λ c. c ≡ command) old reply.Done new receipt
MakesAnswers command old new (Err (Book f)) = IsTurnedDown (λ c. c ≡ command) old new f
MakesAnswers command old new (Err (Opening f)) = ⊥
MakesAnswers command old new (Err TooManyClients) = ⊥
MakesAnswers command old new (Err BadName) = ⊥
MakesAnswers command old new (Err (Text f)) = ⊥
MakesAnswers command old new (Err (Piece function f)) = ⊥
MakesAnswers command old new (Err WorkersGone) = ⊥
MakesAnswers command old new (Err ImageTooLarge) = ⊥
MakesAnswers command old new (Err OutOfMemory) = ⊥
MakesAnswers command old new (Err (Changed receipt)) = ⊥

-- a look-up was answered from some map, and the receipt is the client's last
pub record IsSeen (asked : Asked) (old new : MemberView) (receipt : Receipt) : Type 0 where
  pub units : Units
  pub replied : receipt.entry.reply ≡ reply_of units asked
  pub answered : IsAnswered old asked receipt.entry.reply new receipt

-- ---- updates

-- whether a reply has a unit, and if so whether it has the expected source
abbrev pub HasCompared : Reply → (expected : List ℕ) → Compared → Type 0
HasCompared answer expected compared.NoUnit = (unit : StoredUnit) → answer ≡ reply.Unit unit → ⊥
HasCompared answer expected compared.Other = (unit : StoredUnit) × (answer ≡ reply.Unit unit) × (unit.source ≢ expected)
HasCompared answer expected compared.Same = (unit : StoredUnit) × (answer ≡ reply.Unit unit) × (unit.source ≡ expected)

-- the book's answer, as an answer of the service
abbrev pub answer_of : Result Receipt BookFault → Result Receipt ServiceFault
answer_of (Ok receipt) = Ok receipt
answer_of (Err fault) = Err (Book fault)

-- what follows the look-up: a refusal with 32 or 60, or the change
module _ {Disk : Type 0} (D : Ghosts Disk) where
  abbrev pub UpdatesSeen : (between : BookView Disk) (heard : MemberView) (expected : List ℕ) → Command → (seen : Receipt) (after : BookView Disk) (new : MemberView) → Result Receipt ServiceFault → Type 0
  UpdatesSeen between heard expected command seen after new result =
      (HasCompared seen.entry.reply expected compared.NoUnit × (result ≡ Err (Book (book.Absent seen))) × (after ≡ between) × (new ≡ heard))
      ⊎ ((HasCompared seen.entry.reply expected compared.Other × (result ≡ Err (Changed seen)) × (after ≡ between) × (new ≡ heard))
      ⊎ (HasCompared seen.entry.reply expected compared.Same
      × (answer : Result Receipt BookFault) × (result ≡ answer_of answer) × (IsBookChanged D between heard command after new answer ⊎ IsCompactedFor D between heard command after new answer)))

-- what the client sees of the answer to an update that makes this change
abbrev pub UpdatesBy : Command → (name expected : List ℕ) (old new : MemberView) → Result Receipt ServiceFault → Type 0
UpdatesBy command name expected old new (Ok receipt) = IsUpdated (λ c. c ≡ command) name expected old new receipt
UpdatesBy command name expected old new (Err (Book f)) = IsNotUpdated name expected old new f
UpdatesBy command name expected old new (Err (Changed seen)) = HasFound name (λ source. source ≢ expected) old new seen
UpdatesBy command name expected old new (Err (Opening f)) = ⊥
UpdatesBy command name expected old new (Err TooManyClients) = ⊥
UpdatesBy command name expected old new (Err BadName) = ⊥
UpdatesBy command name expected old new (Err (Text f)) = ⊥
UpdatesBy command name expected old new (Err (Piece function f)) = ⊥
UpdatesBy command name expected old new (Err WorkersGone) = ⊥
UpdatesBy command name expected old new (Err ImageTooLarge) = ⊥
UpdatesBy command name expected old new (Err OutOfMemory) = ⊥
