-- From what the book answers to what a client of the service sees.
use Rattle.std.proofs.Common.{◌≡◌, ℕ, Bool, true, false, IsTrue, IfOk, IfErr, List, Result, Ok, Err, refl, sym, ap, subst, ◌∙◌}
use Rattle.std.specs.Prelude.{if◌then◌else◌}
use Rattle.std.specs.FinMap.{contains_key, insert, remove}
use Rattle.cc_library.specs.Apply.{Units, absent, exists}
use Rattle.cc_library.specs.Name.{is_name}
use Rattle.cc_history.specs.declared.command.Asked.{Asked}
use Rattle.cc_history.specs.declared.command.Asked.TheVariants.{Change}
use Rattle.cc_history.specs.Calls.{Command, reply_of, reply_of_change}
use Rattle.cc_library.specs.declared.command.Change.TheVariants as commands
use Rattle.cc_history.specs.declared.entry.Entry.{Entry}
use Rattle.cc_history.specs.declared.entry.Receipt.{Receipt}
use Rattle.cc_history.specs.declared.reply.Reply.{Reply}
use Rattle.cc_history.specs.declared.reply.Reply.TheVariants as reply
use Rattle.cc_history.specs.History.{Chronicle, MemberView, IsAnswered, IsRecorded}
use Rattle.cc_recorded.specs.Answers.{CommitAnswers, LookAnswers}
use Rattle.cc_recorded.specs.Book.{BookView, chronicle_of}
use Rattle.cc_c_semantics.specs.declared.mode.Mode.{Mode}
use Rattle.cc_service.specs.Compiling.{IsCompileRefusal, IsNotPrepared, IsPastText, IsProgram}
use Rattle.cc_service.specs.Serving.{IsEntered, IsTurnedDown, PutAnswers, refusal_of}
use Rattle.cc_service.specs.internal.Under.{IsSeen, MakesAnswers}
use Rattle.cc_recorded.specs.declared.fault.BookFault.{BookFault}
use Rattle.cc_recorded.specs.declared.fault.BookFault.TheVariants as book
use Rattle.cc_service.specs.declared.fault.ServiceFault.{ServiceFault}
use Rattle.cc_service.specs.declared.fault.ServiceFault.TheVariants.{Opening, TooManyClients, BadName, Text, Piece, WorkersGone, ImageTooLarge, Book, OutOfMemory, Changed}

-- ---- what the book answers to a look-up

seen : (before : Chronicle) (old : MemberView) (asked : Asked) (after : Chronicle) (new : MemberView) (receipt : Receipt)
    → IsRecorded before old asked (reply_of before.units asked) after new receipt → IsSeen asked old new receipt
seen before old asked after new receipt look =
    let is : receipt.entry.reply ≡ reply_of before.units asked = ap (λ (e : Entry). e.reply) look.answered.entry in
    record { units = before.units; replied = is; answered = subst (λ (r : Reply). IsAnswered old asked r new receipt) (sym is) look.answered }

module _ {D : Type 0} where
  pub seen_where_ok : (before : BookView D) (old : MemberView) (asked : Asked) (after : BookView D) (new : MemberView) (result : Result Receipt BookFault)
      → LookAnswers before old asked after new result → IfOk result (λ receipt. IsSeen asked old new receipt)
  seen_where_ok before old asked after new (Ok receipt) look = seen (chronicle_of before) old asked (chronicle_of after) new receipt look.0
  seen_where_ok before old asked after new (Err fault) look = tt

-- ---- what the book answers to a change

pub not_there : (b : Bool) (made : Units) → reply.Exists ≡ reply_of_change (if b then Ok made else Err absent) → ⊥
not_there true made is = cc
not_there false made is = cc

there : (b : Bool) (made : Units) → reply.Absent ≡ reply_of_change (if b then Err exists else Ok made) → ⊥
there true made is = cc
there false made is = cc

-- if the map's reply is Exists, the change adds a name
exists_is : (units : Units) (command : Command) → reply.Exists ≡ reply_of units (Change command) → refusal_of command ≡ reply.Exists
exists_is units (commands.Add name unit) is = refl
exists_is units (commands.Replace name unit) is = absurd (not_there (contains_key units name) (insert units name unit) is)
exists_is units (commands.Withdraw name) is = absurd (not_there (contains_key units name) (remove units name) is)

absent_is : (units : Units) (command : Command) → reply.Absent ≡ reply_of units (Change command) → refusal_of command ≡ reply.Absent
absent_is units (commands.Add name unit) is = absurd (there (contains_key units name) (insert units name unit) is)
absent_is units (commands.Replace name unit) is = refl
absent_is units (commands.Withdraw name) is = refl

module _ {D : Type 0} (failures : D → ℕ) (before : BookView D) (old : MemberView) (command : Command) (after : BookView D) (new : MemberView) where
  pub entered_where_ok : (result : Result Receipt BookFault) → CommitAnswers failures before old command after new result → IfOk result (λ receipt. IsEntered (λ c. c ≡ command) old reply.Done new receipt)
  entered_where_ok (Ok receipt) answers = record { command = command; asked = refl; answered = answers.0.recorded.answered }
  entered_where_ok (Err fault) answers = tt

  pub turned_down_where_err : (result : Result Receipt BookFault) → CommitAnswers failures before old command after new result → IfErr result (λ fault. IsTurnedDown (λ c. c ≡ command) old new fault)
  turned_down_where_err (Ok receipt) answers = tt
  turned_down_where_err (Err (book.Exists receipt)) refused = record { command = command; asked = (refl, exists_is before.library.units command refused.recorded.replied); answered = refused.recorded.answered }
  turned_down_where_err (Err (book.Absent receipt)) refused = record { command = command; asked = (refl, absent_is before.library.units command refused.recorded.replied); answered = refused.recorded.answered }
  turned_down_where_err (Err (book.Estranged number found)) (_, stranger, _, same) =
      (record { last = stranger.0; is_last = stranger.1; number_is = stranger.2.0; found_is = λ is. stranger.2.2 (sym stranger.2.1 ∙ is) }, same)
  turned_down_where_err (Err book.Full) (_, _, _, same) = same
  turned_down_where_err (Err book.DiskFault) (_, _, _, _, same) = same
  turned_down_where_err (Err book.Closed) (_, _, same) = same
  turned_down_where_err (Err book.OutOfMemory) (_, _, same) = same

-- ---- what the service answers

-- what is known of exactly this change, stated for a change that the call may ask for
module _ (Asks : Command → Type 0) (command : Command) (asked : Asks command) (old new : MemberView) where
  pub entered_as : (answer : Reply) (receipt : Receipt) → IsEntered (λ c. c ≡ command) old answer new receipt → IsEntered Asks old answer new receipt
  entered_as answer receipt e = record { command = command; asked = asked; answered = subst (λ (c : Command). IsAnswered old (Change c) answer new receipt) e.asked e.answered }

  refused_as : (answer : Reply) (receipt : Receipt) → IsEntered (λ c. (c ≡ command) × (refusal_of c ≡ answer)) old answer new receipt → IsEntered (λ c. Asks c × (refusal_of c ≡ answer)) old answer new receipt
  refused_as answer receipt e =
      record {
        command = command;
        asked = (asked, subst (λ (c : Command). refusal_of c ≡ answer) e.asked.0 e.asked.1);
        answered = subst (λ (c : Command). IsAnswered old (Change c) answer new receipt) e.asked.0 e.answered;
      }

  turned_as : (fault : BookFault) → IsTurnedDown (λ c. c ≡ command) old new fault → IsTurnedDown Asks old new fault
  turned_as (book.Exists receipt) e = refused_as reply.Exists receipt e
  turned_as (book.Absent receipt) e = refused_as reply.Absent receipt e
  turned_as (book.Estranged number found) e = e
  turned_as book.Full e = e
  turned_as book.DiskFault e = e
  turned_as book.Closed e = e
  turned_as book.OutOfMemory e = e

  pub put : (mode : Mode) (name source : List ℕ) → IsTrue (is_name name) → IsProgram source → (result : Result Receipt ServiceFault) → MakesAnswers command old new result → PutAnswers mode Asks name source old new result
  put mode name source named program (Ok receipt) e = (named, program, entered_as reply.Done receipt e)
  put mode name source named program (Err (Book f)) e = (named, program, turned_as f e)
  put mode name source named program (Err (Opening f)) none = none
  put mode name source named program (Err TooManyClients) none = none
  put mode name source named program (Err BadName) none = absurd none
  put mode name source named program (Err (Text f)) none = absurd none
  put mode name source named program (Err (Piece function f)) none = absurd none
  put mode name source named program (Err WorkersGone) none = absurd none
  put mode name source named program (Err ImageTooLarge) none = absurd none
  put mode name source named program (Err OutOfMemory) none = absurd none
  put mode name source named program (Err (Changed receipt)) none = none

-- what the book answers is not a refusal of the text
pub past_text : (command : Command) (old new : MemberView) (result : Result Receipt ServiceFault) → MakesAnswers command old new result → IfErr result (λ fault. IsPastText fault)
past_text command old new (Ok receipt) e = tt
past_text command old new (Err (Book f)) e = tt
past_text command old new (Err (Opening f)) none = none
past_text command old new (Err TooManyClients) none = none
past_text command old new (Err BadName) none = tt
past_text command old new (Err (Text f)) none = none
past_text command old new (Err (Piece function f)) none = tt
past_text command old new (Err WorkersGone) none = tt
past_text command old new (Err ImageTooLarge) none = tt
past_text command old new (Err OutOfMemory) none = tt
past_text command old new (Err (Changed receipt)) none = tt

-- a reason why a text was not handed in is a reason why it was not compiled
pub not_prepared : (mode : Mode) (text : List ℕ) (fault : ServiceFault) → IsNotPrepared text fault → IsCompileRefusal mode text fault
not_prepared mode text (Text f) e = e
not_prepared mode text WorkersGone e = e
not_prepared mode text OutOfMemory e = e
not_prepared mode text (Piece function f) none = absurd none
not_prepared mode text ImageTooLarge none = absurd none
not_prepared mode text (Opening f) none = none
not_prepared mode text TooManyClients none = none
not_prepared mode text BadName none = none
not_prepared mode text (Book f) none = none
not_prepared mode text (Changed receipt) none = none

-- if a text was not compiled, and the client is unchanged, the fault is an answer of `put`
pub not_put : (mode : Mode) (Asks : Command → Type 0) (name source : List ℕ) (old new : MemberView) → IsTrue (is_name name) → new ≡ old → (fault : ServiceFault) → IsCompileRefusal mode source fault → PutAnswers mode Asks name source old new (Err fault)
not_put mode Asks name source old new named same (Text f) e = (named, e, same)
not_put mode Asks name source old new named same (Piece function f) e = (named, e, same)
not_put mode Asks name source old new named same WorkersGone e = (named, e, same)
not_put mode Asks name source old new named same ImageTooLarge e = (named, e, same)
not_put mode Asks name source old new named same OutOfMemory e = (named, same)
not_put mode Asks name source old new named same (Book f) none = absurd none
not_put mode Asks name source old new named same (Opening f) none = none
not_put mode Asks name source old new named same (Changed receipt) none = none
not_put mode Asks name source old new named same TooManyClients none = none
not_put mode Asks name source old new named same BadName none = absurd none
