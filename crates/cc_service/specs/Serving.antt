-- What a call of a service answers, as its client sees it. No client can name the value under the lock at that moment; the contracts of the
-- book's calls say how it changes.
use Rattle.std.specs.Prelude.{◌≡◌, ◌≢◌, ℕ, ◌-◌, Bool, IsTrue, List, length, Option, Some, slice_get, Result, Ok, Err}
use Rattle.cc_library.specs.unit.StoredUnit.{StoredUnit}
use Rattle.cc_c_semantics.specs.declared.mode.Mode.{Mode}
use Rattle.cc_link.specs.Agree.{Agree, AgreeIn}
use Rattle.cc_library.specs.Name.{is_name}
use Rattle.cc_library.specs.Answers.{OpenFaults}
use Rattle.cc_library.specs.Apply.{Units}
use Rattle.cc_library.specs.Recovered.{Recovers}
use Rattle.cc_history.specs.Calls.{Command}
use Rattle.cc_library.specs.declared.command.Change.TheVariants.{Add, Replace, Withdraw}
use Rattle.cc_history.specs.declared.command.Asked.TheVariants.{Change, Fetch, Names}
use Rattle.cc_history.specs.declared.entry.Entry.{Entry}
use Rattle.cc_history.specs.declared.entry.Receipt.{Receipt}
use Rattle.cc_history.specs.declared.reply.Reply.{Reply}
use Rattle.cc_history.specs.declared.reply.Reply.TheVariants as reply
use Rattle.cc_history.specs.History.{MemberView, IsAnswered, IsLegal}
use Rattle.cc_recorded.specs.Answers.{IsNotClosed}
use Rattle.cc_service.specs.Compiling.{IsCompileRefusal, IsProgram}
use Rattle.cc_recorded.specs.declared.fault.BookFault.{BookFault}
use Rattle.cc_recorded.specs.declared.fault.BookFault.TheVariants as book
use Rattle.cc_service.specs.declared.service.Put.{Put}
use Rattle.cc_service.specs.declared.service.Put.TheVariants as put
use Rattle.cc_service.specs.declared.fault.ServiceFault.{ServiceFault}
use Rattle.cc_service.specs.declared.fault.ServiceFault.TheVariants.{Opening, BadName, Text, Piece, WorkersGone, ImageTooLarge, Book, OutOfMemory}

-- ---- what a call asks of the book

-- the unit was compiled from this source in this mode: its image agrees with the source, and follows what the program shows in the mode
abbrev pub IsOf : Mode → (source : List ℕ) → StoredUnit → Type 0
IsOf mode source unit = (unit.source ≡ source) × Agree unit.source unit.image × AgreeIn mode unit.source unit.image

-- a unit compiled from this source in the mode is added under this name
abbrev pub Adds : Mode → (name source : List ℕ) → Command → Type 0
Adds mode name source (Add n unit) = (n ≡ name) × IsOf mode source unit
Adds mode name source _ = ⊥

-- a unit compiled from this source in the mode replaces the name's unit
abbrev pub Replaces : Mode → (name source : List ℕ) → Command → Type 0
Replaces mode name source (Replace n unit) = (n ≡ name) × IsOf mode source unit
Replaces mode name source _ = ⊥

-- the change that a put asks for, to add or to replace
abbrev pub Puts : Put → Mode → (name source : List ℕ) → Command → Type 0
Puts put.Add = Adds
Puts put.Replace = Replaces

-- the name's unit is removed
abbrev pub Withdraws : (name : List ℕ) → Command → Type 0
Withdraws name (Withdraw n) = n ≡ name
Withdraws name _ = ⊥

-- how the map refuses a change: with 31 if it adds a name, with 32 if it needs a name that is there
abbrev pub refusal_of : Command → Reply
refusal_of (Add n unit) = reply.Exists
refusal_of (Replace n unit) = reply.Absent
refusal_of (Withdraw n) = reply.Absent

-- ---- the answers

-- a change that `Asks` allows was made and answered like this, and the receipt is the client's last
pub record IsEntered (Asks : Command → Type 0) (old : MemberView) (answer : Reply) (new : MemberView) (receipt : Receipt) : Type 0 where
  pub command : Command
  pub asked : Asks command
  pub answered : IsAnswered old (Change command) answer new receipt

-- the number is that of the client's last receipt, and what the history has at that number is not the receipt's entry
pub record IsOfAnother (old : MemberView) (number : ℕ) (found : Option Entry) : Type 0 where
  pub last : Receipt
  pub is_last : slice_get old.receipts (length old.receipts - 1) ≡ Some last
  pub number_is : number ≡ last.number
  pub found_is : found ≢ Some last.entry

-- how the book refuses a change: 31 and 32 with a receipt, which is the client's last; every other refusal leaves the client as it was
abbrev pub IsTurnedDown : (Asks : Command → Type 0) (old new : MemberView) → BookFault → Type 0
IsTurnedDown Asks old new (book.Exists receipt) = IsEntered (λ c. Asks c × (refusal_of c ≡ reply.Exists)) old reply.Exists new receipt
IsTurnedDown Asks old new (book.Absent receipt) = IsEntered (λ c. Asks c × (refusal_of c ≡ reply.Absent)) old reply.Absent new receipt
IsTurnedDown Asks old new (book.Estranged number found) = IsOfAnother old number found × (new ≡ old)
IsTurnedDown Asks old new book.Full = new ≡ old
IsTurnedDown Asks old new book.DiskFault = new ≡ old
IsTurnedDown Asks old new book.Closed = new ≡ old
IsTurnedDown Asks old new book.OutOfMemory = new ≡ old

-- `add` or `replace`: 33 exactly if the bytes are not a name; then why the text was not compiled; or, for a program, the book's answer.
abbrev pub PutAnswers : Mode → (Asks : Command → Type 0) (name source : List ℕ) (old new : MemberView) → Result Receipt ServiceFault → Type 0
PutAnswers mode Asks name source old new (Ok receipt) = IsTrue (is_name name) × IsProgram source × IsEntered Asks old reply.Done new receipt
PutAnswers mode Asks name source old new (Err BadName) = (¬ IsTrue (is_name name)) × (new ≡ old)
PutAnswers mode Asks name source old new (Err (Text f)) = IsTrue (is_name name) × IsCompileRefusal mode source (Text f) × (new ≡ old)
PutAnswers mode Asks name source old new (Err (Piece function f)) = IsTrue (is_name name) × IsCompileRefusal mode source (Piece function f) × (new ≡ old)
PutAnswers mode Asks name source old new (Err WorkersGone) = IsTrue (is_name name) × IsCompileRefusal mode source WorkersGone × (new ≡ old)
PutAnswers mode Asks name source old new (Err ImageTooLarge) = IsTrue (is_name name) × IsCompileRefusal mode source ImageTooLarge × (new ≡ old)
PutAnswers mode Asks name source old new (Err OutOfMemory) = IsTrue (is_name name) × (new ≡ old)
PutAnswers mode Asks name source old new (Err (Book f)) = IsTrue (is_name name) × IsProgram source × IsTurnedDown Asks old new f
PutAnswers mode Asks name source old new (Err _) = ⊥

-- the answer to `withdraw`: 33 exactly if the bytes are not a name; else what the book answers
abbrev pub WithdrawAnswers : (name : List ℕ) (old new : MemberView) → Result Receipt ServiceFault → Type 0
WithdrawAnswers name old new (Ok receipt) = IsTrue (is_name name) × IsEntered (Withdraws name) old reply.Done new receipt
WithdrawAnswers name old new (Err BadName) = (¬ IsTrue (is_name name)) × (new ≡ old)
WithdrawAnswers name old new (Err (Book f)) = IsTrue (is_name name) × IsTurnedDown (Withdraws name) old new f
WithdrawAnswers name old new (Err _) = ⊥

-- how a look-up is refused: 39 or 40, and the client is as it was
abbrev pub IsTurnedAway : (old new : MemberView) → BookFault → Type 0
IsTurnedAway old new (book.Estranged number found) = IsOfAnother old number found × (new ≡ old)
IsTurnedAway old new book.OutOfMemory = new ≡ old
IsTurnedAway old new _ = ⊥

-- how `get` is refused: as a look-up is, and also with 32, which has a receipt, if the name has no unit
abbrev pub IsNotFound : (name : List ℕ) (old new : MemberView) → BookFault → Type 0
IsNotFound name old new (book.Absent receipt) = IsAnswered old (Fetch name) reply.Absent new receipt
IsNotFound name old new (book.Estranged number found) = IsTurnedAway old new (book.Estranged number found)
IsNotFound name old new book.OutOfMemory = IsTurnedAway old new book.OutOfMemory
IsNotFound name old new _ = ⊥

-- the entry has a unit; the entry has all names
abbrev pub HasUnit : Entry → Type 0
HasUnit entry = (unit : StoredUnit) × (entry.reply ≡ reply.Unit unit)

abbrev pub HasNames : Entry → Type 0
HasNames entry = (names : List (List ℕ)) × (entry.reply ≡ reply.Names names)

-- the answer to `get`: 33 exactly if the bytes are not a name
abbrev pub GetAnswers : (name : List ℕ) (old new : MemberView) → Result Receipt ServiceFault → Type 0
GetAnswers name old new (Ok receipt) = IsTrue (is_name name) × HasUnit receipt.entry × IsAnswered old (Fetch name) receipt.entry.reply new receipt
GetAnswers name old new (Err BadName) = (¬ IsTrue (is_name name)) × (new ≡ old)
GetAnswers name old new (Err (Book f)) = IsTrue (is_name name) × IsNotFound name old new f
GetAnswers name old new (Err _) = ⊥

-- the answer to `list`
abbrev pub ListAnswers : (old new : MemberView) → Result Receipt ServiceFault → Type 0
ListAnswers old new (Ok receipt) = HasNames receipt.entry × IsAnswered old Names receipt.entry.reply new receipt
ListAnswers old new (Err (Book f)) = IsTurnedAway old new f
ListAnswers old new (Err _) = ⊥

-- ---- besides the calls of clients

-- why a compaction is refused: 34, 35, 36 or 40
abbrev pub IsNotCompacted : BookFault → Type 0
IsNotCompacted book.Full = Unit {0}
IsNotCompacted book.DiskFault = Unit {0}
IsNotCompacted book.Closed = Unit {0}
IsNotCompacted book.OutOfMemory = Unit {0}
IsNotCompacted _ = ⊥

-- why a service is not opened: what the library's opening answers; or 41 or 40 from the workers, if an honest disk recovers to this map
abbrev pub IsNotOpened : (honest : Bool) (seen : List ℕ) (base : Units) (before after : ℕ) → ServiceFault → Type 0
IsNotOpened honest seen base before after (Opening f) = OpenFaults honest seen before after f
IsNotOpened honest seen base before after WorkersGone = (after ≡ before) × (IsTrue honest → Recovers seen base)
IsNotOpened honest seen base before after OutOfMemory = (after ≡ before) × (IsTrue honest → Recovers seen base)
IsNotOpened honest seen base before after _ = ⊥

-- why the workers of a service could not be started: 41 or 40
abbrev pub IsNotStarted : ServiceFault → Type 0
IsNotStarted WorkersGone = Unit {0}
IsNotStarted OutOfMemory = Unit {0}
IsNotStarted _ = ⊥

-- Why a service is not ended: 40; or 39, and then there is a history, legal from the map with which the service began. Either a receipt of
-- these clients does not match that history: the fault has the first such receipt's number, and what is there instead. Or these are not all
-- the clients that were made.
pub record IsNotEnded (honest : Bool) (base : Units) (clients : List MemberView) (fault : ServiceFault) : Type 0 where
  pub found : Units
  pub found_is : IsTrue honest → found ≡ base
  pub history : List Entry
  pub legal : IsLegal found history
  pub made : ℕ
  pub refusal : BookFault
  pub fault_is : fault ≡ Book refusal
  pub why : IsNotClosed history made clients refusal
