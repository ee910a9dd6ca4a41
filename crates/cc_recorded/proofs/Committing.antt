-- What has to be shown at each exit of a commit, in terms of what contracts see of a book: that what its type keeps still
-- holds, and the answer.
use Rattle.std.proofs.Common.{◌≡◌, ℕ, zero, suc, ◌+◌, inl, inr, Bool, true, false, IsTrue, List, [], ◌∷◌, ◌++◌, length, Result, Ok, Err, refl, sym, ap, ◌∙◌, subst, arith, length-append}
use Rattle.std.specs.Prelude.{◌==◌, IsOk, if◌then◌else◌}
use Rattle.cc_disk.specs.declared.disk.Disk.{Ghosts}
use Rattle.cc_disk.specs.Images.{LeavesOnly}
use Rattle.cc_library.specs.Change as made
use Rattle.cc_library.specs.Apply.{Units, after, after_all}
use Rattle.cc_library.specs.Recovered.{View, RecoversAlone, RecoversOneOf}
use Rattle.cc_history.specs.declared.command.Asked.{Asked}
use Rattle.cc_history.specs.declared.command.Asked.TheVariants.{Change, Fetch, Names}
use Rattle.cc_history.specs.declared.entry.Entry.{Entry}
use Rattle.cc_history.specs.declared.entry.Receipt.{Receipt}
use Rattle.cc_history.specs.declared.reply.Reply.{Reply}
use Rattle.cc_history.specs.declared.reply.Reply.TheVariants as reply
use Rattle.cc_history.specs.Calls.{Command, HasAgreed, HasAgreedUnit, changes_of, reply_of, reply_of_change}
use Rattle.cc_history.specs.History.{MemberView, Chronicle, HaveAgreed, IsOwn, IsRecorded, LastStands, Replays, entry_of}
use Rattle.cc_history.specs.Laws.{RecordsKeep, next_of, member_of}
use Rattle.cc_history.proofs.Histories.{snoc_cases}
use Rattle.cc_recorded.specs.Book.{BookView, IsRecordedLibrary, RecoversTo, chronicle_of, AllAgreed}
use Rattle.cc_recorded.specs.Changed.{AllRecover}
use Rattle.cc_recorded.specs.Member.{IsMember}
use Rattle.cc_recorded.specs.Answers.{IsLook}

-- ---- a call that is answered with an entry

pub agreed-push : (history : List Entry) (entry : Entry) → HaveAgreed history → HasAgreedUnit entry.asked → HaveAgreed (history ++ entry ∷ [])
agreed-push history entry old new k found at =
    elim (snoc_cases history entry found k at) [ inl a ↦ old k found a.1 | inr b ↦ subst (λ (e : Entry). HasAgreedUnit e.asked) (sym b.1) new ]

module _ {Disk : Type 0} where
  -- the book with one more entry, and with this library
  abbrev pub entered : BookView Disk → View Disk → Receipt → BookView Disk
  entered before library receipt = record before { library = library; history = before.history ++ receipt.entry ∷ [] }

  -- if the entry of a call is put at the end of the history, and the library has its new map, the call is recorded
  pub enters : RecordsKeep → (before : BookView Disk) (library : View Disk) (old : MemberView) (asked : Asked) (answer : Reply) (receipt : Receipt)
      → Replays (chronicle_of before) → IsOwn old → LastStands before.history old.receipts → answer ≡ reply_of before.library.units asked
      → receipt.number ≡ length before.history + 1 → receipt.entry ≡ entry_of old asked answer → library.units ≡ after_all before.library.units (changes_of asked answer)
      → IsRecorded (chronicle_of before) old asked answer (chronicle_of (entered before library receipt)) (member_of old receipt) receipt
      × Replays (chronicle_of (entered before library receipt)) × IsOwn (member_of old receipt)
  enters keep before library old asked answer receipt replays own stood replied number entry units =
      let made = keep (chronicle_of before) old asked answer receipt replays own stood replied number entry in
      let next : next_of (chronicle_of before) asked answer receipt ≡ chronicle_of (entered before library receipt) =
      ap (λ (u : Units). record { base = before.base; units = u; history = before.history ++ receipt.entry ∷ [] }) (sym units) in
      subst (λ (c : Chronicle). IsRecorded (chronicle_of before) old asked answer c (member_of old receipt) receipt × Replays c × IsOwn (member_of old receipt)) next made

  -- with one more entry, what the book's type keeps still holds
  pub keeps_entered : (D : Ghosts Disk) (named : Units) (total total' : ℕ) (before : BookView Disk) (library : View Disk) (receipt : Receipt)
      → IsRecordedLibrary D named total before → Replays (chronicle_of (entered before library receipt)) → HasAgreedUnit receipt.entry.asked → total' ≡ total + 1
      → library.closed ≡ before.library.closed → (IsTrue D.honest → (image : List ℕ) → D.may_leave library.disk image → RecoversTo library.units before.failed image)
      → IsRecordedLibrary D named total' (entered before library receipt)
  keeps_entered D named total total' before library receipt book replays agreed counted phase images = record {
    replays = replays;
    agreed = agreed-push before.history receipt.entry book.agreed agreed;
    agreed_failed = book.agreed_failed;
    counted = omega (arith, counted, book.counted, length-append before.history (receipt.entry ∷ []));
    base = book.base;
    idle = λ is. book.idle (sym phase ∙ is);
    one = book.one;
    images = images;
  }

-- with one more receipt, what the client's type keeps still holds
pub keeps_member : (old : MemberView) (receipt : Receipt) (parts amount parts' amount' : ℕ) → IsMember old parts amount → parts' ≡ parts → amount' ≡ amount + 1 → IsOwn (member_of old receipt) → IsMember (member_of old receipt) parts' amount'
keeps_member old receipt parts amount parts' amount' client part counted own = record {
  part = part ∙ client.part;
  counted = omega (arith, counted, client.counted, length-append old.receipts (receipt ∷ []));
  own = own;
}

-- ---- no device call

-- while nothing is done, a crash leaves the map
pub still : {Disk : Type 0} (D : Ghosts Disk) (disk : Disk) (units units' : Units)
    → ((image : List ℕ) → D.left_since disk (D.moment disk) image → D.may_leave disk image) → ((image : List ℕ) → D.may_leave disk image → RecoversAlone image units)
    → LeavesOnly D.moment D.left_since disk disk (RecoversOneOf units units')
still D disk units units' only_now alone = record {
  later = omega arith;
  each = λ image left. inl (alone image (only_now image left));
  before = λ t image le left. inl left;
}

-- while the book is idle, every image recovers to the map
pub alone_of : {Disk : Type 0} (D : Ghosts Disk) (named : Units) (total : ℕ) (book : BookView Disk)
    → IsRecordedLibrary D named total book → book.library.closed ≡ false → IsTrue D.honest → (image : List ℕ) → D.may_leave book.library.disk image → RecoversAlone image book.library.units
alone_of D named total book kept idle h image left =
    subst (λ (failed : List made.LibraryCommand). RecoversTo book.library.units failed image) (kept.idle idle) (kept.images h image left)

-- ---- what the library answered

-- a reply of Exists or Absent is not Done
not_done : (b : Bool) → (if b then reply.Exists else reply.Absent) ≡ reply.Done → ⊥
not_done true is = cc
not_done false is = cc

pub done_is_ok : (r : Result Units ℕ) → reply_of_change r ≡ reply.Done → IsOk r
done_is_ok (Ok made) is = refl
done_is_ok (Err number) is = absurd (not_done (number == 31) is)

-- ---- an exit with an entry

-- After a call whose entry was put in, with this library, what the types of the book and the client keep still holds, and
-- the call is recorded.
pub entering : RecordsKeep → {Disk : Type 0} (D : Ghosts Disk) (named : Units) (total total' : ℕ) (before : BookView Disk) (new_library : View Disk) (old : MemberView) (parts amount parts' amount' : ℕ)
    (asked : Asked) (answer : Reply) (history : List Entry) (receipts : List Receipt) (receipt : Receipt)
    → IsRecordedLibrary D named total before → IsMember old parts amount → LastStands before.history old.receipts → answer ≡ reply_of before.library.units asked → HasAgreedUnit asked
    → receipt.number ≡ length before.history + 1 → receipt.entry ≡ entry_of old asked answer → history ≡ before.history ++ receipt.entry ∷ [] → receipts ≡ old.receipts ++ receipt ∷ []
    → total' ≡ total + 1 → parts' ≡ parts → amount' ≡ amount + 1
    → new_library.units ≡ after_all before.library.units (changes_of asked answer) → new_library.closed ≡ before.library.closed
    → (IsTrue D.honest → (image : List ℕ) → D.may_leave new_library.disk image → RecoversTo new_library.units before.failed image)
    → IsRecordedLibrary D named total' (record before { library = new_library; history = history }) × IsMember (record old { receipts = receipts }) parts' amount'
    × IsRecorded (chronicle_of before) old asked answer (record { base = before.base; units = new_library.units; history = history }) (record old { receipts = receipts }) receipt
entering keep D named total total' before new_library old parts amount parts' amount' asked answer history receipts receipt book client stood replied agreed number entry history_is receipts_is counted part more units phase images =
    let made = enters keep before new_library old asked answer receipt book.replays client.own stood replied number entry units in
    let agreed_entry : HasAgreedUnit receipt.entry.asked = subst (λ (e : Entry). HasAgreedUnit e.asked) (sym entry) agreed in
    let kept = keeps_entered D named total total' before new_library receipt book made.1 agreed_entry counted phase images in
    let kept_member = keeps_member old receipt parts amount parts' amount' client part more made.2 in (
      subst (λ (h : List Entry). IsRecordedLibrary D named total' (record before { library = new_library; history = h })) (sym history_is) kept,
      subst (λ (r : List Receipt). IsMember (record old { receipts = r }) parts' amount') (sym receipts_is) kept_member,
      subst (λ (h : List Entry). IsRecorded (chronicle_of before) old asked answer (record { base = before.base; units = new_library.units; history = h }) (record old { receipts = receipts }) receipt) (sym history_is)
          (subst (λ (r : List Receipt). IsRecorded (chronicle_of before) old asked answer (chronicle_of (entered before new_library receipt)) (record old { receipts = r }) receipt) (sym receipts_is) made.0),
    )

-- if a receipt is made from a number and an entry, these are its parts
pub receipt_is : (receipt : Receipt) (number : ℕ) (entry : Entry) → receipt ≡ record { number = number; entry = entry } → (receipt.number ≡ number) × (receipt.entry ≡ entry)
receipt_is receipt number entry is = (ap (λ (r : Receipt). r.number) is, ap (λ (r : Receipt). r.entry) is)

-- ---- an exit after the device has failed

only_agreed : (c : made.LibraryCommand) → HasAgreed c → AllAgreed (c ∷ [])
only_agreed c agrees zero d at = let same : c ≡ d = cc in subst HasAgreed same agrees
only_agreed c agrees (suc k) d at = absurd (cc)

-- after the device has failed in a change, what the book's type keeps still holds
pub keeps_failed : {Disk : Type 0} (D : Ghosts Disk) (named : Units) (total : ℕ) (before : BookView Disk) (new_library : View Disk) (history : List Entry) (failed : List made.LibraryCommand) (command : Command) (change : made.LibraryCommand)
    → IsRecordedLibrary D named total before → HasAgreed command → history ≡ before.history → failed ≡ before.failed ++ change ∷ [] → before.library.closed ≡ false
    → new_library ≡ record before.library { disk = new_library.disk; closed = true } → change ≡ command
    → (IsTrue D.honest → (image : List ℕ) → D.may_leave new_library.disk image → RecoversOneOf before.library.units (after before.library.units change) image)
    → (failed ≡ command ∷ []) × IsRecordedLibrary D named total (record before { library = new_library; history = history; failed = failed })
keeps_failed D named total before new_library history failed command change book agrees history_is failed_is idle library_is change_is images =
    let none = book.idle idle in
    let one : failed ≡ change ∷ [] = failed_is ∙ ap (λ (l : List made.LibraryCommand). l ++ change ∷ []) none in
    let units : new_library.units ≡ before.library.units = ap (λ (v : View _). v.units) library_is in
    let shut : new_library.closed ≡ true = ap (λ (v : View _). v.closed) library_is in (
      one ∙ ap (λ (c : made.LibraryCommand). c ∷ []) change_is,
      record {
        replays = subst (λ (c : Chronicle). Replays c) (λ i. record { base = before.base; units = sym units i; history = sym history_is i }) book.replays;
        agreed = subst HaveAgreed (sym history_is) book.agreed;
        agreed_failed = subst (λ (l : List made.LibraryCommand). AllAgreed l) (sym one) (only_agreed change (subst (λ (c : made.LibraryCommand). HasAgreed c) (sym change_is) agrees));
        counted = book.counted ∙ ap length (sym history_is);
        base = book.base;
        idle = λ not. absurd (cc (shut, not));
        one = omega (arith, ap length one);
        images = λ h image left.
            subst (λ (u : Units). RecoversTo u failed image) (sym units)
            (subst (λ (l : List made.LibraryCommand). RecoversTo before.library.units l image) (sym one) (images h image left));
      },
    )

-- if no device call was made, and the library is usable, every image recovers to the map and to no other map
pub no_call_between : {Disk : Type 0} (D : Ghosts Disk) (book : BookView Disk) (next : Units)
    → (IsTrue D.honest → (image : List ℕ) → D.left_since book.library.disk (D.moment book.library.disk) image → D.may_leave book.library.disk image) → AllRecover D book
    → (book.library.closed ≡ false → book.failed ≡ []) → IsTrue D.honest → book.library.closed ≡ false
    → LeavesOnly D.moment D.left_since book.library.disk book.library.disk (RecoversOneOf book.library.units next)
no_call_between D book next only_now images idle h usable = record {
  later = omega arith;
  each = λ image left. inl (subst (λ (l : List made.LibraryCommand). RecoversTo book.library.units l image) (idle usable) (images h image (only_now h image left)));
  before = λ t image earlier left. inl left;
}

-- ---- a look-up

-- a look-up hands in no unit and changes nothing
pub look_agrees : (asked : Asked) → IsLook asked → HasAgreedUnit asked
look_agrees (Change command) look = absurd look
look_agrees (Fetch name) look = tt
look_agrees Names look = tt

pub look_changes_nothing : (asked : Asked) (answer : Reply) → IsLook asked → changes_of asked answer ≡ []
look_changes_nothing (Change command) answer look = absurd look
look_changes_nothing (Fetch name) answer look = refl
look_changes_nothing Names answer look = refl
