-- An update is a look-up and a change with no other call in between: after a look-up that found the unit, the book does not
-- refuse the change with 32, 36 or 39. Then what the client sees of an update.
use Rattle.std.proofs.Common.{◌≡◌, ◌∙◌, ◌⊎◌, inl, inr, ℕ, ◌+◌, ◌-◌, Bool, true, false, IsTrue, IfOk, IfErr, List, [], ◌∷◌, ◌++◌, length, Option, Some, None, Result, Ok, Err, append_assoc, refl, sym, ap, subst, arith}
use Rattle.std.specs.Prelude.{IfSome, if◌then◌else◌, is_some, slice_get}
use Rattle.std.specs.FinMap.{contains_key, get, insert}
use Rattle.std.proofs.lemmas.List.{length-append}
use Rattle.cc_disk.specs.Images.{LeavesOnly}
use Rattle.cc_disk.specs.declared.disk.Disk.{Ghosts}
use Rattle.cc_library.specs.unit.StoredUnit.{StoredUnit}
use Rattle.cc_library.specs.Apply.{Units, absent, after}
use Rattle.cc_library.specs.Name.{is_name}
use Rattle.cc_library.specs.Recovered.{RecoversOneOf, View}
use Rattle.cc_history.specs.declared.command.Asked.{Asked}
use Rattle.cc_history.specs.declared.command.Asked.TheVariants.{Fetch}
use Rattle.cc_history.specs.Calls.{Command, reply_of_change, reply_of_found}
use Rattle.cc_library.specs.declared.command.Change.TheVariants.{Replace}
use Rattle.cc_history.specs.declared.entry.Entry.{Entry}
use Rattle.cc_history.specs.declared.entry.Receipt.{Receipt}
use Rattle.cc_history.specs.declared.reply.Reply.{Reply}
use Rattle.cc_history.specs.declared.reply.Reply.TheVariants as reply
use Rattle.cc_history.specs.History.{IsAnswered, LastStands, MemberView, Stands, entry_at}
use Rattle.cc_recorded.specs.Answers.{CommitAnswers, CompactAnswers, LookAnswers}
use Rattle.cc_recorded.specs.Book.{BookView}
use Rattle.cc_recorded.specs.Changed.{AllRecover, ChangesAtOnce, IsBookChanged}
use Rattle.cc_recorded.specs.Compacting.{CommitsBehind, IsCompactedFor}
use Rattle.cc_recorded.specs.Promise.{IsSound}
use Rattle.cc_recorded.specs.Since.{BookSince}
use Rattle.cc_recorded.specs.declared.fault.BookFault.{BookFault}
use Rattle.cc_recorded.specs.declared.fault.BookFault.TheVariants as book
use Rattle.cc_c_semantics.specs.declared.mode.Mode.{Mode}
use Rattle.cc_service.specs.Compiling.{IsCompileRefusal, IsProgram}
use Rattle.cc_service.specs.Serving.{IsEntered, IsOf, IsTurnedDown, Replaces}
use Rattle.cc_service.specs.Stored.{IsStored}
use Rattle.cc_service.specs.Updating.{HasFound, HasLooked, IsUpdate, IsUpdated, UpdateAnswers, UpdatesBook}
use Rattle.cc_service.specs.declared.asking.Compared.TheVariants as compared
use Rattle.cc_service.specs.declared.fault.ServiceFault.{ServiceFault}
use Rattle.cc_service.specs.declared.fault.ServiceFault.TheVariants.{Opening, TooManyClients, BadName, Text, Piece, WorkersGone, ImageTooLarge, Book, OutOfMemory, Changed}
use Rattle.cc_service.specs.internal.Under.{HasCompared, UpdatesBy, UpdatesSeen, answer_of}
use Rattle.cc_service.proofs.Answering.{entered_as, entered_where_ok, not_there, turned_down_where_err}
use Rattle.cc_service.proofs.Storing.{newest, stored}
use Rattle.cc_recorded.proofs.Committing.{no_call_between}

-- ---- the reply of a look-up

-- the unit in a reply
abbrev unit_in : Reply → Option StoredUnit
unit_in (reply.Unit unit) = Some unit
unit_in answer = None

unit_found : (found : Option StoredUnit) → unit_in (reply_of_found found) ≡ found
unit_found (Some unit) = refl
unit_found None = refl

some_in : (found : Option StoredUnit) (answer : Reply) (unit : StoredUnit) → answer ≡ reply_of_found found → answer ≡ reply.Unit unit → found ≡ Some unit
some_in found answer unit is has = sym (unit_found found) ∙ (ap unit_in (sym is) ∙ ap unit_in has)

none_in : (found : Option StoredUnit) (answer : Reply) → answer ≡ reply_of_found found → ((unit : StoredUnit) → answer ≡ reply.Unit unit → ⊥) → found ≡ None
none_in None answer is not = refl
none_in (Some unit) answer is not = absurd (not unit is)

-- ---- the receipt of a look-up matches

last_of : (receipts : List Receipt) (receipt : Receipt) → slice_get (receipts ++ receipt ∷ []) (length receipts) ≡ Some receipt
last_of [] receipt = refl
last_of (first ∷ others) receipt = last_of others receipt

last_receipt : (receipts : List Receipt) (receipt : Receipt) → slice_get (receipts ++ receipt ∷ []) (length (receipts ++ receipt ∷ []) - 1) ≡ Some receipt
last_receipt receipts receipt =
    let n = length-append receipts (receipt ∷ []) in
    let one : length (receipts ++ receipt ∷ []) - 1 ≡ length receipts = omega (arith, n) in
    ap (λ (k : ℕ). slice_get (receipts ++ receipt ∷ []) k) one ∙ last_of receipts receipt

-- if a name is there, a change that needs it is not answered with Absent
there_not : (c : Bool) (made : Units) → c ≡ true → reply.Absent ≡ reply_of_change (if c then Ok made else Err absent) → ⊥
there_not true made is e = cc
there_not false made is e = cc

-- the book may refuse the change with this fault
abbrev May : BookFault → Type 0
May (book.Exists receipt) = ⊥
May (book.Absent receipt) = ⊥
May (book.Estranged number found) = ⊥
May book.Closed = ⊥
May book.Full = Unit {0}
May book.DiskFault = Unit {0}
May book.OutOfMemory = Unit {0}

module _ {Disk : Type 0} (D : Ghosts Disk) where
  -- no change of this name is refused with 36, 39 or 32
  record IsReady (b : BookView Disk) (name : List ℕ) (heard : MemberView) : Type 0 where
    idle : b.library.closed ≡ false
    unit : StoredUnit
    found : get b.library.units name ≡ Some unit
    stands : LastStands b.history heard.receipts

  -- after a look-up that found the unit, the book is ready
  ready_after : (before between : BookView Disk) (old heard : MemberView) (name : List ℕ) (seen : Receipt) (unit : StoredUnit) → before.library.closed ≡ false
      → LookAnswers before old (Fetch name) between heard (Ok seen) → get before.library.units name ≡ Some unit → IsReady between name heard
  ready_after before between old heard name seen unit idle looked found =
      let mine : slice_get heard.receipts (length heard.receipts - 1) ≡ Some seen =
      subst (λ (m : MemberView). slice_get m.receipts (length m.receipts - 1) ≡ Some seen) (sym looked.0.answered.receipts) (last_receipt old.receipts seen) in
      let entered : entry_at between.history seen.number ≡ Some seen.entry =
      ap (λ (h : List Entry). entry_at h seen.number) looked.0.history ∙ (ap (λ (n : ℕ). entry_at (before.history ++ seen.entry ∷ []) n) looked.0.number ∙ newest before.history seen.entry) in
      record {
        idle = ap (λ (v : View Disk). v.closed) looked.1 ∙ idle;
        unit = unit;
        found = ap (λ (v : View Disk). get v.units name) looked.1 ∙ found;
        stands = λ receipt is. subst (λ (o : Option Receipt). IfSome o (λ r. Stands between.history r)) (sym mine ∙ is) entered;
      }

  -- if a book is ready, it is also ready after a compaction
  ready_on : (b c : BookView Disk) (name : List ℕ) (heard : MemberView) (done : Unit {0}) → CompactAnswers D.failures b c (let r : Result (Unit {0}) BookFault = Ok done in r) → IsReady b name heard → IsReady c name heard
  ready_on b c name heard done it ready = record {
    idle = ap (λ (x : BookView Disk). x.library.closed) it.3;
    unit = ready.unit;
    found = ap (λ (x : BookView Disk). get x.library.units name) it.3 ∙ ready.found;
    stands = subst (λ (x : BookView Disk). LastStands x.history heard.receipts) (sym it.3) ready.stands;
  }

  refused_ready : (b after_it : BookView Disk) (name : List ℕ) (heard new : MemberView) (made : StoredUnit) (fault : BookFault) → IsReady b name heard
      → CommitAnswers D.failures b heard (Replace name made) after_it new (Err fault) → May fault
  refused_ready b after_it name heard new made (book.Exists receipt) ready it =
      not_there (contains_key b.library.units name) (insert b.library.units name made) it.recorded.replied
  refused_ready b after_it name heard new made (book.Absent receipt) ready it =
      there_not (contains_key b.library.units name) (insert b.library.units name made) (ap (λ (o : Option StoredUnit). is_some o) ready.found) it.recorded.replied
  refused_ready b after_it name heard new made (book.Estranged number found) ready it = it.1.2.2 (ready.stands it.1.0 it.1.1)
  refused_ready b after_it name heard new made book.Closed ready it = let no : true ≡ false = sym it.0 ∙ ready.idle in cc
  refused_ready b after_it name heard new made book.Full ready it = tt
  refused_ready b after_it name heard new made book.DiskFault ready it = tt
  refused_ready b after_it name heard new made book.OutOfMemory ready it = tt

  -- ---- the change, with or without a compaction before it

  change_refused : (b after_it : BookView Disk) (name : List ℕ) (heard new : MemberView) (made : StoredUnit) (fault : BookFault) → IsReady b name heard
      → IsBookChanged D b heard (Replace name made) after_it new (Err fault) ⊎ IsCompactedFor D b heard (Replace name made) after_it new (Err fault) → May fault
  change_refused b after_it name heard new made fault ready (inl changed) = refused_ready b after_it name heard new made fault ready changed.answers
  change_refused b after_it name heard new made fault ready (inr twice) = behind twice.between twice.compacted twice.answers twice.commits
    where
      behind : (c : BookView Disk) (compacted : Result (Unit {0}) BookFault) → CompactAnswers D.failures b c compacted → CommitsBehind D (Replace name made) c heard after_it new compacted (Err fault) → May fault
      behind c (Ok done) compacts commits = refused_ready c after_it name heard new made fault (ready_on b c name heard done compacts ready) commits.0
      behind c (Err why) compacts commits = subst (λ (r : Result Receipt BookFault). IfErr r (λ f. May f)) (sym commits.0) tt

  change_turned : (b after_it : BookView Disk) (heard new : MemberView) (command : Command) (answer : Result Receipt BookFault)
      → IsBookChanged D b heard command after_it new answer ⊎ IsCompactedFor D b heard command after_it new answer → IfErr answer (λ f. IsTurnedDown (λ c. c ≡ command) heard new f)
  change_turned b after_it heard new command answer (inl changed) = turned_down_where_err D.failures b heard command after_it new answer changed.answers
  change_turned b after_it heard new command answer (inr twice) = behind twice.between twice.compacted twice.commits
    where
      behind : (c : BookView Disk) (compacted : Result (Unit {0}) BookFault) → CommitsBehind D command c heard after_it new compacted answer → IfErr answer (λ f. IsTurnedDown (λ c. c ≡ command) heard new f)
      behind c (Ok done) commits = turned_down_where_err D.failures c heard command after_it new answer commits.0
      behind c (Err why) commits = subst (λ (r : Result Receipt BookFault). IfErr r (λ f. IsTurnedDown (λ c. c ≡ command) heard new f)) (sym commits.0) commits.2

  -- the entry of the change is the next one of the history
  change_entered : (b after_it : BookView Disk) (heard new : MemberView) (command : Command) (receipt : Receipt)
      → IsBookChanged D b heard command after_it new (Ok receipt) ⊎ IsCompactedFor D b heard command after_it new (Ok receipt)
      → IsEntered (λ c. c ≡ command) heard reply.Done new receipt × (receipt.number ≡ length b.history + 1)
  change_entered b after_it heard new command receipt (inl changed) =
      (entered_where_ok D.failures b heard command after_it new (Ok receipt) changed.answers, changed.answers.0.recorded.number)
  change_entered b after_it heard new command receipt (inr twice) = behind twice.between twice.compacted twice.answers twice.commits
    where
      behind : (c : BookView Disk) (compacted : Result (Unit {0}) BookFault) → CompactAnswers D.failures b c compacted → CommitsBehind D command c heard after_it new compacted (Ok receipt)
          → IsEntered (λ c. c ≡ command) heard reply.Done new receipt × (receipt.number ≡ length b.history + 1)
      behind c (Ok done) compacts commits =
          (entered_where_ok D.failures c heard command after_it new (Ok receipt) commits.0, commits.0.0.recorded.number ∙ ap (λ (x : BookView Disk). length x.history + 1) compacts.3)
      behind c (Err why) compacts commits = absurd (let is = commits.0 in cc)

  -- ---- what an update leaves on the disk

  -- a look-up that was refused leaves the book as it was
  pub look_leaves : (before after_it : BookView Disk) (old new : MemberView) (asked : Asked) (fault : BookFault) → LookAnswers before old asked after_it new (Err fault) → after_it ≡ before
  look_leaves before after_it old new asked (book.Estranged number found) it = it.1
  look_leaves before after_it old new asked book.OutOfMemory it = it.0
  look_leaves before after_it old new asked (book.Exists receipt) it = absurd it
  look_leaves before after_it old new asked (book.Absent receipt) it = absurd it
  look_leaves before after_it old new asked book.Full it = absurd it
  look_leaves before after_it old new asked book.Closed it = absurd it
  look_leaves before after_it old new asked book.DiskFault it = absurd it

  -- if the book is unchanged, a crash leaves what it may leave during a change, whatever that change is
  pub nothing_at_once : (before after_it : BookView Disk) (command : Command) → after_it ≡ before
      → (IsTrue D.honest → (image : List ℕ) → D.left_since before.library.disk (D.moment before.library.disk) image → D.may_leave before.library.disk image) → AllRecover D before
      → (before.library.closed ≡ false → before.failed ≡ []) → ChangesAtOnce D command before after_it
  nothing_at_once before after_it command same only_now images idle =
      subst (λ (b : BookView Disk). ChangesAtOnce D command before b) (sym same) (no_call_between D before (after before.library.units command) only_now images idle)

  -- what a crash may leave during a change, it may leave during a look-up and then that change, since a look-up leaves the
  -- library as it was
  pub at_once_after : (before between after_it : BookView Disk) (command : Command) → between.library ≡ before.library → ChangesAtOnce D command between after_it → ChangesAtOnce D command before after_it
  at_once_after before between after_it command same moments =
      subst (λ (l : View Disk). IsTrue D.honest → l.closed ≡ false → LeavesOnly D.moment D.left_since l.disk after_it.library.disk (RecoversOneOf l.units (after l.units command))) same moments

  -- if the books since a are those up to b, and the books since b are those up to c, then the books since a are those up to c
  pub since_after : (a b c : BookSince Disk) → b.since ≡ a.since ++ b.book ∷ [] → (c ≡ b) ⊎ ((between : List (BookView Disk)) × (c.since ≡ b.since ++ (between ++ c.book ∷ [])))
      → (c ≡ a) ⊎ ((between : List (BookView Disk)) × (c.since ≡ a.since ++ (between ++ c.book ∷ [])))
  since_after a b c one (inl same) = inr ([], subst (λ (x : BookSince Disk). x.since ≡ a.since ++ x.book ∷ []) (sym same) one)
  since_after a b c one (inr two) =
      inr (b.book ∷ two.0, two.1 ∙ ap (λ (l : List (BookView Disk)). l ++ (two.0 ++ c.book ∷ [])) one ∙ append_assoc a.since (b.book ∷ []) (two.0 ++ c.book ∷ []))

  -- ---- for a book

  -- if the look-up of an update was refused, the update is answered with that refusal
  pub look_refused : (before after_it : BookView Disk) (old new : MemberView) (name expected : List ℕ) (command : Command) (fault : BookFault) → before.library.closed ≡ false
      → LookAnswers before old (Fetch name) after_it new (Err fault) → UpdatesBook D before old name expected command after_it new (Err (Book fault))
  look_refused before after_it old new name expected command (book.Estranged number found) idle it = (idle, it.0, it.1, it.2)
  look_refused before after_it old new name expected command book.OutOfMemory idle it = (idle, inl (it.0, it.1))
  look_refused before after_it old new name expected command (book.Exists receipt) idle it = absurd it
  look_refused before after_it old new name expected command (book.Absent receipt) idle it = absurd it
  look_refused before after_it old new name expected command book.Full idle it = absurd it
  look_refused before after_it old new name expected command book.Closed idle it = absurd it
  look_refused before after_it old new name expected command book.DiskFault idle it = absurd it

  update_refused : (before after_it : BookView Disk) (old new : MemberView) (name expected : List ℕ) (command : Command) (fault : BookFault) → before.library.closed ≡ false → May fault
      → IsUpdate D before old name expected command after_it new (Err fault) → UpdatesBook D before old name expected command after_it new (Err (Book fault))
  update_refused before after_it old new name expected command (book.Exists receipt) idle may it = absurd may
  update_refused before after_it old new name expected command (book.Absent receipt) idle may it = absurd may
  update_refused before after_it old new name expected command (book.Estranged number found) idle may it = absurd may
  update_refused before after_it old new name expected command book.Closed idle may it = absurd may
  update_refused before after_it old new name expected command book.Full idle may it = (idle, it)
  update_refused before after_it old new name expected command book.DiskFault idle may it = (idle, it)
  update_refused before after_it old new name expected command book.OutOfMemory idle may it = (idle, inr it)

  module _ (before between after_it : BookView Disk) (old heard new : MemberView) (name expected : List ℕ) (made : StoredUnit) (seen : Receipt) (idle : before.library.closed ≡ false)
      (looked : LookAnswers before old (Fetch name) between heard (Ok seen)) where
    replied : seen.entry.reply ≡ reply_of_found (get before.library.units name)
    replied = ap (λ (e : Entry). e.reply) looked.0.answered.entry

    -- if nothing was done after the look-up, the look-up's result still holds
    still : after_it ≡ between → new ≡ heard → LookAnswers before old (Fetch name) after_it new (Ok seen)
    still same_book same_member =
        subst (λ (b : BookView Disk). LookAnswers before old (Fetch name) b new (Ok seen)) (sym same_book)
        (subst (λ (m : MemberView). LookAnswers before old (Fetch name) between m (Ok seen)) (sym same_member) looked)

    changed_so : (unit : StoredUnit) → seen.entry.reply ≡ reply.Unit unit → unit.source ≡ expected → (answer : Result Receipt BookFault)
        → IsBookChanged D between heard (Replace name made) after_it new answer ⊎ IsCompactedFor D between heard (Replace name made) after_it new answer
        → UpdatesBook D before old name expected (Replace name made) after_it new (answer_of answer)
    changed_so unit has same answer changed = cases answer changed
      where
        found : get before.library.units name ≡ Some unit
        found = some_in (get before.library.units name) seen.entry.reply unit replied has

        cases : (answer : Result Receipt BookFault)
            → IsBookChanged D between heard (Replace name made) after_it new answer ⊎ IsCompactedFor D between heard (Replace name made) after_it new answer
            → UpdatesBook D before old name expected (Replace name made) after_it new (answer_of answer)
        cases (Ok receipt) changed = (idle, record { seen = seen; between = between; heard = heard; looked = looked; unit = unit; found = found; same = same; changed = changed })
        cases (Err fault) changed =
            update_refused before after_it old new name expected (Replace name made) fault idle
            (change_refused between after_it name heard new made fault (ready_after before between old heard name seen unit idle looked found) changed)
            (record { seen = seen; between = between; heard = heard; looked = looked; unit = unit; found = found; same = same; changed = changed })

    pub seen_updates : (result : Result Receipt ServiceFault) → UpdatesSeen D between heard expected (Replace name made) seen after_it new result
        → UpdatesBook D before old name expected (Replace name made) after_it new result
    seen_updates result (inl none) =
        subst (λ (r : Result Receipt ServiceFault). UpdatesBook D before old name expected (Replace name made) after_it new r) (sym none.1)
        (idle, still none.2 none.3, none_in (get before.library.units name) seen.entry.reply replied none.0)
    seen_updates result (inr (inl other)) =
        subst (λ (r : Result Receipt ServiceFault). UpdatesBook D before old name expected (Replace name made) after_it new r) (sym other.1)
        (idle, record { looked = still other.2 other.3; unit = other.0.0; found = some_in (get before.library.units name) seen.entry.reply other.0.0 replied other.0.1; other = other.0.2 })
    seen_updates result (inr (inr same)) =
        subst (λ (r : Result Receipt ServiceFault). UpdatesBook D before old name expected (Replace name made) after_it new r) (sym same.2)
        (changed_so same.0.0 same.0.1 same.0.2 same.1 same.3)

  -- ---- as the client sees it

  found_answered : (before between : BookView Disk) (old heard : MemberView) (name : List ℕ) (seen : Receipt) (unit : StoredUnit) → LookAnswers before old (Fetch name) between heard (Ok seen)
      → get before.library.units name ≡ Some unit → IsAnswered old (Fetch name) (reply.Unit unit) heard seen
  found_answered before between old heard name seen unit looked found = subst (λ (r : Reply). IsAnswered old (Fetch name) r heard seen) (ap reply_of_found found) looked.0.answered

  has_looked : (before after_it : BookView Disk) (old new : MemberView) (name expected : List ℕ) (command : Command) (answer : Result Receipt BookFault) (it : IsUpdate D before old name expected command after_it new answer)
      → new ≡ it.heard → HasLooked name expected old new
  has_looked before after_it old new name expected command answer it same = (
    it.seen,
    subst (λ (m : MemberView). HasFound name (λ source. source ≡ expected) old m it.seen) (sym same)
        (record { unit = it.unit; holds = it.same; answered = found_answered before it.between old it.heard name it.seen it.unit it.looked it.found }),
  )

  updated : (before after_it : BookView Disk) (old new : MemberView) (name expected : List ℕ) (command : Command) (receipt : Receipt)
      → IsUpdate D before old name expected command after_it new (Ok receipt) → IsUpdated (λ c. c ≡ command) name expected old new receipt
  updated before after_it old new name expected command receipt it =
      let entered = change_entered it.between after_it it.heard new command receipt it.changed in
      let more : length (before.history ++ it.seen.entry ∷ []) ≡ length before.history + 1 = length-append before.history (it.seen.entry ∷ []) in
      let longer : length it.between.history ≡ length (before.history ++ it.seen.entry ∷ []) = ap (λ (h : List Entry). length h) it.looked.0.history in
      let first : it.seen.number ≡ length before.history + 1 = it.looked.0.number in
      let then_is : receipt.number ≡ length it.between.history + 1 = entered.1 in
      record {
        seen = it.seen;
        heard = it.heard;
        found = record { unit = it.unit; holds = it.same; answered = found_answered before it.between old it.heard name it.seen it.unit it.looked it.found };
        entered = entered.0;
        next = omega (arith, more, longer, first, then_is);
      }

  pub updates_by : (before after_it : BookView Disk) (old new : MemberView) (name expected : List ℕ) (command : Command) (result : Result Receipt ServiceFault)
      → UpdatesBook D before old name expected command after_it new result → UpdatesBy command name expected old new result
  updates_by before after_it old new name expected command (Ok receipt) it = updated before after_it old new name expected command receipt it.1
  updates_by before after_it old new name expected command (Err (Changed seen)) it =
      record { unit = it.1.unit; holds = it.1.other; answered = found_answered before after_it old new name seen it.1.unit it.1.looked it.1.found }
  updates_by before after_it old new name expected command (Err (Book book.Closed)) it = it.2
  updates_by before after_it old new name expected command (Err (Book (book.Estranged number found))) it =
      (record { last = it.1.0; is_last = it.1.1; number_is = it.1.2.0; found_is = λ is. it.1.2.2 (sym it.1.2.1 ∙ is) }, it.3)
  updates_by before after_it old new name expected command (Err (Book (book.Absent seen))) it =
      subst (λ (r : Reply). IsAnswered old (Fetch name) r new seen) (ap reply_of_found it.2) it.1.0.answered
  updates_by before after_it old new name expected command (Err (Book book.Full)) it =
      has_looked before after_it old new name expected command (Err book.Full) it.1 (change_turned it.1.between after_it it.1.heard new command (Err book.Full) it.1.changed)
  updates_by before after_it old new name expected command (Err (Book book.DiskFault)) it =
      has_looked before after_it old new name expected command (Err book.DiskFault) it.1 (change_turned it.1.between after_it it.1.heard new command (Err book.DiskFault) it.1.changed)
  updates_by before after_it old new name expected command (Err (Book book.OutOfMemory)) it =
      elim it.1 [
        | inl same ↦ inl same.1
        | inr update ↦ inr (has_looked before after_it old new name expected command (Err book.OutOfMemory) update
            (change_turned update.between after_it update.heard new command (Err book.OutOfMemory) update.changed))
      ]
  updates_by before after_it old new name expected command (Err (Book (book.Exists receipt))) none = none
  updates_by before after_it old new name expected command (Err (Opening f)) none = none
  updates_by before after_it old new name expected command (Err TooManyClients) none = none
  updates_by before after_it old new name expected command (Err BadName) none = none
  updates_by before after_it old new name expected command (Err (Text f)) none = none
  updates_by before after_it old new name expected command (Err (Piece function f)) none = none
  updates_by before after_it old new name expected command (Err WorkersGone) none = none
  updates_by before after_it old new name expected command (Err ImageTooLarge) none = none
  updates_by before after_it old new name expected command (Err OutOfMemory) none = none

  -- an update that was answered with Ok is on the disk
  pub update_stored : (base : Units) (from : ℕ) (left : List ℕ → Type 0) (before after_it : BookView Disk) (old new : MemberView) (name expected : List ℕ) (command : Command) (result : Result Receipt ServiceFault)
      → UpdatesBook D before old name expected command after_it new result → IsSound D base from left after_it → IfOk result (λ receipt. IsStored D base from left receipt)
  update_stored base from left before after_it old new name expected command (Ok receipt) it sound =
      stored D base from left it.1.between after_it it.1.heard new command (Ok receipt) it.1.changed sound
  update_stored base from left before after_it old new name expected command (Err fault) it sound = tt

-- ---- what the service answers

pub update : (mode : Mode) (name expected source : List ℕ) (made : StoredUnit) (old new : MemberView) → IsOf mode source made → IsTrue (is_name name) → IsProgram source → (result : Result Receipt ServiceFault)
    → UpdatesBy (Replace name made) name expected old new result → UpdateAnswers mode name expected source old new result
update mode name expected source made old new of named program (Ok receipt) it = (
  named,
  program,
  record {
    seen = it.seen;
    heard = it.heard;
    found = it.found;
    entered = entered_as (Replaces mode name source) (Replace name made) (refl, of) it.heard new reply.Done receipt it.entered;
    next = it.next;
  },
)
update mode name expected source made old new of named program (Err (Book f)) it = (named, program, it)
update mode name expected source made old new of named program (Err (Changed seen)) it = (named, program, it)
update mode name expected source made old new of named program (Err (Opening f)) none = none
update mode name expected source made old new of named program (Err TooManyClients) none = none
update mode name expected source made old new of named program (Err BadName) none = absurd none
update mode name expected source made old new of named program (Err (Text f)) none = absurd none
update mode name expected source made old new of named program (Err (Piece function f)) none = absurd none
update mode name expected source made old new of named program (Err WorkersGone) none = absurd none
update mode name expected source made old new of named program (Err ImageTooLarge) none = absurd none
update mode name expected source made old new of named program (Err OutOfMemory) none = absurd none

-- if a text was not compiled, and the client is unchanged, the fault is an answer of `update`
pub not_updated : (mode : Mode) (name expected source : List ℕ) (old new : MemberView) → IsTrue (is_name name) → new ≡ old → (fault : ServiceFault) → IsCompileRefusal mode source fault
    → UpdateAnswers mode name expected source old new (Err fault)
not_updated mode name expected source old new named same (Text f) e = (named, e, same)
not_updated mode name expected source old new named same (Piece function f) e = (named, e, same)
not_updated mode name expected source old new named same WorkersGone e = (named, e, same)
not_updated mode name expected source old new named same ImageTooLarge e = (named, e, same)
not_updated mode name expected source old new named same OutOfMemory e = (named, same)
not_updated mode name expected source old new named same (Book f) none = absurd none
not_updated mode name expected source old new named same (Changed seen) none = absurd none
not_updated mode name expected source old new named same (Opening f) none = none
not_updated mode name expected source old new named same TooManyClients none = none
not_updated mode name expected source old new named same BadName none = absurd none
