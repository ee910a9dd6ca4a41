-- A client keeps its number and its receipts when it makes calls.
use Rattle.std.proofs.Common.{◌≡◌, ◌∙◌, List, [], ◌∷◌, ◌++◌, ℕ, Bool, true, false, Result, Ok, Err, refl, sym, ap, subst, append_assoc, inl, inr}
use Rattle.std.proofs.lemmas.List.{append-nil}
use Rattle.cc_script.specs.declared.fault.ScriptFault.{ScriptFault}
use Rattle.cc_history.specs.declared.command.Asked.{Asked}
use Rattle.cc_history.specs.declared.command.Asked.TheVariants.{Change, Fetch, Names}
use Rattle.cc_history.specs.Calls.{Command}
use Rattle.cc_history.specs.declared.entry.Receipt.{Receipt}
use Rattle.cc_history.specs.declared.reply.Reply.{Reply}
use Rattle.cc_history.specs.declared.reply.Reply.TheVariants as reply
use Rattle.cc_history.specs.History.{IsAnswered, MemberView}
use Rattle.cc_c_semantics.specs.declared.mode.Mode.{Mode}
use Rattle.cc_service.specs.Serving.{GetAnswers, IsNotFound, IsTurnedAway, IsTurnedDown, ListAnswers, PutAnswers, WithdrawAnswers, Withdraws}
use Rattle.cc_service.specs.book_fault.BookFault.{BookFault}
use Rattle.cc_service.specs.book_fault.BookFault.TheVariants as book
use Rattle.cc_service.specs.declared.fault.ServiceFault.{ServiceFault}
use Rattle.cc_service.specs.declared.fault.ServiceFault.TheVariants as service
use Rattle.cc_service.specs.Updating.{IsNotUpdated, UpdateAnswers}
use Rattle.cc_session.specs.Playing.{Audits, AuditsEach, AuditsOne, EndsAudit, Grows, Talk, talk}
use Rattle.cc_session.specs.internal.Calls.{DoesAndTells}

pub grows_same : (old new : MemberView) → new ≡ old → Grows old new
grows_same old new same = subst (λ (m : MemberView). Grows old m) (sym same) (refl, ([], sym (append-nil old.receipts)))

pub grows_on : (a b c : MemberView) → Grows a b → Grows b c → Grows a c
grows_on a b c one two = (
  two.0 ∙ one.0,
  (
    one.1.0 ++ two.1.0,
    two.1.1 ∙ (ap (λ (l : List Receipt). l ++ two.1.0) one.1.1 ∙ append_assoc a.receipts one.1.0 two.1.0),
  ),
)

grows_answered : (old : MemberView) (asked : Asked) (answer : Reply) (new : MemberView) (receipt : Receipt) → IsAnswered old asked answer new receipt → Grows old new
grows_answered old asked answer new receipt it = subst (λ (m : MemberView). Grows old m) (sym it.receipts) (refl, (receipt ∷ [], refl))

-- ---- each call

turned_down : (Asks : Command → Type 0) (old new : MemberView) (fault : BookFault) → IsTurnedDown Asks old new fault → Grows old new
turned_down Asks old new (book.Exists receipt) it = grows_answered old (Change it.command) reply.Exists new receipt it.answered
turned_down Asks old new (book.Absent receipt) it = grows_answered old (Change it.command) reply.Absent new receipt it.answered
turned_down Asks old new (book.Estranged number found) it = grows_same old new it.1
turned_down Asks old new book.Full it = grows_same old new it
turned_down Asks old new book.DiskFault it = grows_same old new it
turned_down Asks old new book.Closed it = grows_same old new it
turned_down Asks old new book.OutOfMemory it = grows_same old new it

pub put_grows : (mode : Mode) → (Asks : Command → Type 0) (name source : List ℕ) (old new : MemberView) (answer : Result Receipt ServiceFault) → PutAnswers mode Asks name source old new answer → Grows old new
put_grows mode Asks name source old new (Ok receipt) it = grows_answered old (Change it.2.command) reply.Done new receipt it.2.answered
put_grows mode Asks name source old new (Err service.BadName) it = grows_same old new it.1
put_grows mode Asks name source old new (Err (service.Text f)) it = grows_same old new it.2
put_grows mode Asks name source old new (Err (service.Piece function f)) it = grows_same old new it.2
put_grows mode Asks name source old new (Err service.WorkersGone) it = grows_same old new it.2
put_grows mode Asks name source old new (Err service.ImageTooLarge) it = grows_same old new it.2
put_grows mode Asks name source old new (Err service.OutOfMemory) it = grows_same old new it.1
put_grows mode Asks name source old new (Err (service.Book f)) it = turned_down Asks old new f it.2
put_grows mode Asks name source old new (Err (service.Opening f)) it = absurd it
put_grows mode Asks name source old new (Err service.TooManyClients) it = absurd it
put_grows mode Asks name source old new (Err (service.Changed receipt)) it = absurd it

pub withdraw_grows : (name : List ℕ) (old new : MemberView) (answer : Result Receipt ServiceFault) → WithdrawAnswers name old new answer → Grows old new
withdraw_grows name old new (Ok receipt) it = grows_answered old (Change it.1.command) reply.Done new receipt it.1.answered
withdraw_grows name old new (Err service.BadName) it = grows_same old new it.1
withdraw_grows name old new (Err (service.Book f)) it = turned_down (Withdraws name) old new f it.1
withdraw_grows name old new (Err (service.Text f)) it = absurd it
withdraw_grows name old new (Err (service.Piece function f)) it = absurd it
withdraw_grows name old new (Err service.WorkersGone) it = absurd it
withdraw_grows name old new (Err service.ImageTooLarge) it = absurd it
withdraw_grows name old new (Err service.OutOfMemory) it = absurd it
withdraw_grows name old new (Err (service.Opening f)) it = absurd it
withdraw_grows name old new (Err service.TooManyClients) it = absurd it
withdraw_grows name old new (Err (service.Changed receipt)) it = absurd it

turned_away : (old new : MemberView) (fault : BookFault) → IsTurnedAway old new fault → Grows old new
turned_away old new (book.Estranged number found) it = grows_same old new it.1
turned_away old new book.OutOfMemory it = grows_same old new it
turned_away old new (book.Exists receipt) it = absurd it
turned_away old new (book.Absent receipt) it = absurd it
turned_away old new book.Full it = absurd it
turned_away old new book.DiskFault it = absurd it
turned_away old new book.Closed it = absurd it

not_found : (name : List ℕ) (old new : MemberView) (fault : BookFault) → IsNotFound name old new fault → Grows old new
not_found name old new (book.Absent receipt) it = grows_answered old (Fetch name) reply.Absent new receipt it
not_found name old new (book.Estranged number found) it = grows_same old new it.1
not_found name old new book.OutOfMemory it = grows_same old new it
not_found name old new (book.Exists receipt) it = absurd it
not_found name old new book.Full it = absurd it
not_found name old new book.DiskFault it = absurd it
not_found name old new book.Closed it = absurd it

pub get_grows : (name : List ℕ) (old new : MemberView) (answer : Result Receipt ServiceFault) → GetAnswers name old new answer → Grows old new
get_grows name old new (Ok receipt) it = grows_answered old (Fetch name) receipt.entry.reply new receipt it.2
get_grows name old new (Err service.BadName) it = grows_same old new it.1
get_grows name old new (Err (service.Book f)) it = not_found name old new f it.1
get_grows name old new (Err (service.Text f)) it = absurd it
get_grows name old new (Err (service.Piece function f)) it = absurd it
get_grows name old new (Err service.WorkersGone) it = absurd it
get_grows name old new (Err service.ImageTooLarge) it = absurd it
get_grows name old new (Err service.OutOfMemory) it = absurd it
get_grows name old new (Err (service.Opening f)) it = absurd it
get_grows name old new (Err service.TooManyClients) it = absurd it
get_grows name old new (Err (service.Changed receipt)) it = absurd it

pub list_grows : (old new : MemberView) (answer : Result Receipt ServiceFault) → ListAnswers old new answer → Grows old new
list_grows old new (Ok receipt) it = grows_answered old Names receipt.entry.reply new receipt it.1
list_grows old new (Err (service.Book f)) it = turned_away old new f it
list_grows old new (Err service.BadName) it = absurd it
list_grows old new (Err (service.Text f)) it = absurd it
list_grows old new (Err (service.Piece function f)) it = absurd it
list_grows old new (Err service.WorkersGone) it = absurd it
list_grows old new (Err service.ImageTooLarge) it = absurd it
list_grows old new (Err service.OutOfMemory) it = absurd it
list_grows old new (Err (service.Opening f)) it = absurd it
list_grows old new (Err service.TooManyClients) it = absurd it
list_grows old new (Err (service.Changed receipt)) it = absurd it

-- ---- an audit

audited_grows : (mode : Mode) → (names : List (List ℕ)) (all : Bool) (old new : Talk) → AuditsEach mode names all old new → Grows old.client new.client
audited_grows mode [] true old new it = grows_same old.client new.client (ap (λ (t : Talk). t.client) it)
audited_grows mode [] false old new it = absurd it
audited_grows mode (name ∷ names) all old new (inl last) = get_grows name old.client new.client last.1.0 last.1.1
audited_grows mode (name ∷ names) all old new (inr on) =
    grows_on old.client on.0.client new.client (get_grows name old.client on.0.client on.1.0 on.1.1) (audited_grows mode names all on.0 new on.2)

ended_grows : (all : Bool) (old new : Talk) → EndsAudit all old new → Grows old.client new.client
ended_grows true old new it = grows_same old.client new.client it.0
ended_grows false old new it = grows_same old.client new.client (ap (λ (t : Talk). t.client) it)

audits_grow : (mode : Mode) → (old new : Talk) → Audits mode old new → Grows old.client new.client
audits_grow mode old new (inl refused) = list_grows old.client new.client refused.0 refused.1
audits_grow mode old new (inr it) =
    grows_on old.client it.heard new.client (list_grows old.client it.heard (Ok it.receipt) it.listed)
    (grows_on it.heard it.last.client new.client (audited_grows mode it.names it.all (talk it.heard old.written) it.last it.audited) (ended_grows it.all it.last new it.ended))

pub audit_grows : (mode : Mode) → {T : Type 0} (answer : Result T ScriptFault) (old new : Talk) → DoesAndTells (Audits mode) old new answer → Grows old.client new.client
audit_grows mode (Ok done) old new it = audits_grow mode old new it
audit_grows mode (Err fault) old new it = audits_grow mode old (talk new.client it.1) it.2

audits_one_grow : (mode : Mode) → (name : List ℕ) (old new : Talk) → AuditsOne mode name old new → Grows old.client new.client
audits_one_grow mode name old new it = grows_on old.client it.1.client new.client (audited_grows mode (name ∷ []) it.0 old it.1 it.2) (ended_grows it.0 it.1 new it.3)

pub audit_one_grows : (mode : Mode) → {T : Type 0} (answer : Result T ScriptFault) (name : List ℕ) (old new : Talk) → DoesAndTells (AuditsOne mode name) old new answer → Grows old.client new.client
audit_one_grows mode (Ok done) name old new it = audits_one_grow mode name old new it
audit_one_grows mode (Err fault) name old new it = audits_one_grow mode name old (talk new.client it.1) it.2

-- ---- an update

not_updated : (name expected : List ℕ) (old new : MemberView) (fault : BookFault) → IsNotUpdated name expected old new fault → Grows old new
not_updated name expected old new (book.Absent seen) it = grows_answered old (Fetch name) reply.Absent new seen it
not_updated name expected old new (book.Estranged number found) it = grows_same old new it.1
not_updated name expected old new book.Full it = grows_answered old (Fetch name) (reply.Unit it.1.unit) new it.0 it.1.answered
not_updated name expected old new book.DiskFault it = grows_answered old (Fetch name) (reply.Unit it.1.unit) new it.0 it.1.answered
not_updated name expected old new book.Closed it = grows_same old new it
not_updated name expected old new book.OutOfMemory (inl it) = grows_same old new it
not_updated name expected old new book.OutOfMemory (inr it) = grows_answered old (Fetch name) (reply.Unit it.1.unit) new it.0 it.1.answered
not_updated name expected old new (book.Exists receipt) it = absurd it

pub update_grows : (mode : Mode) → (name expected source : List ℕ) (old new : MemberView) (answer : Result Receipt ServiceFault) → UpdateAnswers mode name expected source old new answer → Grows old new
update_grows mode name expected source old new (Ok receipt) it =
    grows_on old it.2.heard new (grows_answered old (Fetch name) (reply.Unit it.2.found.unit) it.2.heard it.2.seen it.2.found.answered)
    (grows_answered it.2.heard (Change it.2.entered.command) reply.Done new receipt it.2.entered.answered)
update_grows mode name expected source old new (Err service.BadName) it = grows_same old new it.1
update_grows mode name expected source old new (Err (service.Text f)) it = grows_same old new it.2
update_grows mode name expected source old new (Err (service.Piece function f)) it = grows_same old new it.2
update_grows mode name expected source old new (Err service.WorkersGone) it = grows_same old new it.2
update_grows mode name expected source old new (Err service.ImageTooLarge) it = grows_same old new it.2
update_grows mode name expected source old new (Err service.OutOfMemory) it = grows_same old new it.1
update_grows mode name expected source old new (Err (service.Book f)) it = not_updated name expected old new f it.2
update_grows mode name expected source old new (Err (service.Changed seen)) it = grows_answered old (Fetch name) (reply.Unit it.2.unit) new seen it.2.answered
update_grows mode name expected source old new (Err (service.Opening f)) it = absurd it
update_grows mode name expected source old new (Err service.TooManyClients) it = absurd it
