-- Three exits put an entry into the history: those with a receipt. At each of them `entering` shows that what the types of
-- the book and the client keep still holds, and that the call is recorded. After the device has failed, the book keeps the
-- change that failed.
use Rattle.std.proofs.Common.{◌≡◌, ◌+◌, ◌≤◌, false, IsTrue, List, [], ◌∷◌, ◌++◌, length, refl, sym, ap, ◌∙◌, subst}
use Rattle.cc_disk.specs.Images.{LeavesOnly}
use Rattle.cc_library.specs.Change.{LibraryCommand}
use Rattle.cc_library.specs.Body.{body_of}
use Rattle.cc_library.specs.Answers.{room_with}
use Rattle.cc_library.specs.Apply.{apply, after}
use Rattle.cc_library.specs.Recovered.{View, RecoversOneOf}
use Rattle.cc_history.specs.declared.command.Asked.TheVariants.{Change}
use Rattle.cc_history.specs.declared.entry.Entry.{Entry}
use Rattle.cc_history.specs.declared.entry.Receipt.{Receipt}
use Rattle.cc_history.specs.declared.reply.Reply.TheVariants as reply
use Rattle.cc_history.specs.Calls.{reply_of_change}
use Rattle.cc_history.specs.History.{MemberView, IsRecorded, LastStands, entry_of}
use Rattle.cc_recorded.specs.Book.{BookView, IsRecordedLibrary, RecoversTo}
use Rattle.cc_recorded.specs.Member.{IsMember}
use Rattle.cc_recorded.specs.Answers.{IsDone}
use Rattle.cc_recorded.specs.Changed.{IsBookChanged}
use Rattle.cc_recorded.specs.Disk.{ChangesDisk}
use Rattle.cc_recorded.specs.declared.fault.BookFault.{BookFault}
use Rattle.cc_recorded.specs.declared.fault.BookFault.TheVariants.{Exists, Absent, DiskFault}
use Rattle.std.proofs.Common.{Result, Ok, Err}
use Rattle.cc_recorded.specs.internal.Decide.{answer_reply}
use Rattle.cc_recorded.proofs.Committing.{entering, receipt_is, keeps_failed, done_is_ok, no_call_between}
use Rattle.cc_recorded.proofs.recorded.RecordedLibrary.commit.Given.{Over}
use Rattle.cc_recorded.proofs.recorded.RecordedLibrary.commit.Goals as goal

exists_facts : (g : Over) (c : goal.Joined-change-2 g)
    → IsRecordedLibrary g.D.Disk g.N.Based.base c.enter.new.calls.total (record { base = c.self.inside.base; library = c.self.inside.library; history = c.enter.new.history.items; failed = c.self.inside.failed.items })
    × IsMember (record { number = c.client.inside.number; receipts = c.enter.new.receipts.items }) c.enter.new.share.parts c.enter.new.share.amount
    × IsRecorded (record { base = c.self.inside.base; units = c.self.inside.library.units; history = c.self.inside.history.items }) (record { number = c.client.inside.number; receipts = c.client.inside.receipts.items }) (Change c.args.command) reply.Exists
    (record { base = c.self.inside.base; units = c.self.inside.library.units; history = c.enter.new.history.items }) (record { number = c.client.inside.number; receipts = c.enter.new.receipts.items }) c.enter.result
exists_facts g c =
    let before : BookView g.row.D.Denot = record { base = c.self.inside.base; library = c.self.inside.library; history = c.self.inside.history.items; failed = c.self.inside.failed.items } in
    let old : MemberView = record { number = c.client.inside.number; receipts = c.client.inside.receipts.items } in
    let o = c.in-Ok-prepare.owners in
    let stood : LastStands before.history old.receipts = subst (λ (r : List Receipt). LastStands before.history r) c.as_slice-2.ensures.value (subst (λ (h : List Entry). LastStands h c.as_slice-2.result.now) c.as_slice.ensures.value c.in-Ok.ensures.ok) in
    let count : c.len.result ≡ length old.receipts = c.len.ensures ∙ sym c.as_slice-2.ensures.len ∙ ap length c.as_slice-2.ensures.value in
    let answered : c.reply.result ≡ reply.Exists = c.reply.ensures ∙ ap answer_reply c.in-Exists.is in
    let replied : reply.Exists ≡ reply_of_change (apply before.library.units c.args.command) = sym (ap answer_reply c.in-Exists.is) ∙ c.decide-answer.ensures ∙ ap (λ (k : LibraryCommand). reply_of_change (apply before.library.units k)) c.in-Ok-change_of.ensures.change in
    let entry : o.history ≡ entry_of old (Change c.args.command) reply.Exists = c.in-Ok-prepare.ensures.owners.0 ∙ (λ i. record { client = old.number; call = count i + 1; asked = Change c.args.command; reply = answered i }) in
    let r = receipt_is c.enter.result (length c.prepare.new.history.items + 1) o.history c.enter.ensures.receipt in
    entering c.calls_are_recorded.ensures g.D.Disk g.N.Based.base c.self.inside.calls.total c.enter.new.calls.total before c.self.inside.library old c.client.inside.share.parts c.client.inside.share.amount c.enter.new.share.parts c.enter.new.share.amount
    (Change c.args.command) reply.Exists c.enter.new.history.items c.enter.new.receipts.items c.enter.result c.self.invariant c.client.invariant stood replied c.in-Ok-change_of.ensures.agrees
    (r.0 ∙ ap (λ (h : List Entry). length h + 1) c.in-Ok-prepare.ensures.history) (r.1 ∙ entry)
    (c.enter.ensures.history ∙ (λ i. c.in-Ok-prepare.ensures.history i ++ sym r.1 i ∷ [])) (c.enter.ensures.receipts ∙ ap (λ (l : List Receipt). l ++ c.enter.result ∷ []) c.in-Ok-prepare.ensures.receipts)
    c.enter.ensures.total c.enter.ensures.parts c.enter.ensures.amount refl refl c.self.invariant.images

pub invariant_of-self-in-Exists : goal.invariant_of-self-in-Exists
invariant_of-self-in-Exists g c = (exists_facts g c).0

pub invariant_of-client-in-Exists : goal.invariant_of-client-in-Exists
invariant_of-client-in-Exists g c = (exists_facts g c).1

pub returns-in-Exists : goal.returns-in-Exists
returns-in-Exists g c =
    let D = g.D.Disk in
    let before : BookView g.row.D.Denot = record { base = c.self.inside.base; library = c.self.inside.library; history = c.self.inside.history.items; failed = c.self.inside.failed.items } in
    let after_it : BookView g.row.D.Denot = record before { history = c.enter.new.history.items } in
    let new : MemberView = record { number = c.client.inside.number; receipts = c.enter.new.receipts.items } in
    let answered : Result Receipt BookFault = Err (Exists c.enter.result) in
    record {
      changed = subst (λ (b : BookView g.row.D.Denot). IsBookChanged D b c.args.client.now c.args.command after_it new answered) c.self.view_is
          (subst (λ (h : MemberView). IsBookChanged D before h c.args.command after_it new answered) c.client.view_is
          (record {
            answers = record { idle = sym c.is_closed.ensures ∙ c.if-is_closed.false; recorded = (exists_facts g c).2; library = refl; failed = refl };
            disk = λ _. tt;
            moments = no_call_between D before (after before.library.units c.args.command) (λ h image left. g.met.D.Disk.only_now before.library.disk image h left) c.self.invariant.images c.self.invariant.idle;
            kept = (exists_facts g c).0.images;
          }));
    }

absent_facts : (g : Over) (c : goal.Joined-change-3 g)
    → IsRecordedLibrary g.D.Disk g.N.Based.base c.enter-in-Absent.new.calls.total (record { base = c.self.inside.base; library = c.self.inside.library; history = c.enter-in-Absent.new.history.items; failed = c.self.inside.failed.items })
    × IsMember (record { number = c.client.inside.number; receipts = c.enter-in-Absent.new.receipts.items }) c.enter-in-Absent.new.share.parts c.enter-in-Absent.new.share.amount
    × IsRecorded (record { base = c.self.inside.base; units = c.self.inside.library.units; history = c.self.inside.history.items }) (record { number = c.client.inside.number; receipts = c.client.inside.receipts.items }) (Change c.args.command) reply.Absent
    (record { base = c.self.inside.base; units = c.self.inside.library.units; history = c.enter-in-Absent.new.history.items }) (record { number = c.client.inside.number; receipts = c.enter-in-Absent.new.receipts.items }) c.enter-in-Absent.result
absent_facts g c =
    let before : BookView g.row.D.Denot = record { base = c.self.inside.base; library = c.self.inside.library; history = c.self.inside.history.items; failed = c.self.inside.failed.items } in
    let old : MemberView = record { number = c.client.inside.number; receipts = c.client.inside.receipts.items } in
    let o = c.in-Ok-prepare.owners in
    let stood : LastStands before.history old.receipts = subst (λ (r : List Receipt). LastStands before.history r) c.as_slice-2.ensures.value (subst (λ (h : List Entry). LastStands h c.as_slice-2.result.now) c.as_slice.ensures.value c.in-Ok.ensures.ok) in
    let count : c.len.result ≡ length old.receipts = c.len.ensures ∙ sym c.as_slice-2.ensures.len ∙ ap length c.as_slice-2.ensures.value in
    let answered : c.reply.result ≡ reply.Absent = c.reply.ensures ∙ ap answer_reply c.in-Absent.is in
    let replied : reply.Absent ≡ reply_of_change (apply before.library.units c.args.command) = sym (ap answer_reply c.in-Absent.is) ∙ c.decide-answer.ensures ∙ ap (λ (k : LibraryCommand). reply_of_change (apply before.library.units k)) c.in-Ok-change_of.ensures.change in
    let entry : o.history ≡ entry_of old (Change c.args.command) reply.Absent = c.in-Ok-prepare.ensures.owners.0 ∙ (λ i. record { client = old.number; call = count i + 1; asked = Change c.args.command; reply = answered i }) in
    let r = receipt_is c.enter-in-Absent.result (length c.prepare.new.history.items + 1) o.history c.enter-in-Absent.ensures.receipt in
    entering c.calls_are_recorded.ensures g.D.Disk g.N.Based.base c.self.inside.calls.total c.enter-in-Absent.new.calls.total before c.self.inside.library old c.client.inside.share.parts c.client.inside.share.amount c.enter-in-Absent.new.share.parts c.enter-in-Absent.new.share.amount
    (Change c.args.command) reply.Absent c.enter-in-Absent.new.history.items c.enter-in-Absent.new.receipts.items c.enter-in-Absent.result c.self.invariant c.client.invariant stood replied c.in-Ok-change_of.ensures.agrees
    (r.0 ∙ ap (λ (h : List Entry). length h + 1) c.in-Ok-prepare.ensures.history) (r.1 ∙ entry)
    (c.enter-in-Absent.ensures.history ∙ (λ i. c.in-Ok-prepare.ensures.history i ++ sym r.1 i ∷ [])) (c.enter-in-Absent.ensures.receipts ∙ ap (λ (l : List Receipt). l ++ c.enter-in-Absent.result ∷ []) c.in-Ok-prepare.ensures.receipts)
    c.enter-in-Absent.ensures.total c.enter-in-Absent.ensures.parts c.enter-in-Absent.ensures.amount refl refl c.self.invariant.images

pub invariant_of-self-in-Absent : goal.invariant_of-self-in-Absent
invariant_of-self-in-Absent g c = (absent_facts g c).0

pub invariant_of-client-in-Absent : goal.invariant_of-client-in-Absent
invariant_of-client-in-Absent g c = (absent_facts g c).1

pub returns-in-Absent : goal.returns-in-Absent
returns-in-Absent g c =
    let D = g.D.Disk in
    let before : BookView g.row.D.Denot = record { base = c.self.inside.base; library = c.self.inside.library; history = c.self.inside.history.items; failed = c.self.inside.failed.items } in
    let after_it : BookView g.row.D.Denot = record before { history = c.enter-in-Absent.new.history.items } in
    let new : MemberView = record { number = c.client.inside.number; receipts = c.enter-in-Absent.new.receipts.items } in
    let answered : Result Receipt BookFault = Err (Absent c.enter-in-Absent.result) in
    record {
      changed = subst (λ (b : BookView g.row.D.Denot). IsBookChanged D b c.args.client.now c.args.command after_it new answered) c.self.view_is
          (subst (λ (h : MemberView). IsBookChanged D before h c.args.command after_it new answered) c.client.view_is
          (record {
            answers = record { idle = sym c.is_closed.ensures ∙ c.if-is_closed.false; recorded = (absent_facts g c).2; library = refl; failed = refl };
            disk = λ _. tt;
            moments = no_call_between D before (after before.library.units c.args.command) (λ h image left. g.met.D.Disk.only_now before.library.disk image h left) c.self.invariant.images c.self.invariant.idle;
            kept = (absent_facts g c).0.images;
          }));
    }

done_facts : (g : Over) (c : goal.After-enter-in-Ok-change g)
    → IsRecordedLibrary g.D.Disk g.N.Based.base c.enter-in-Ok-change.new.calls.total (record { base = c.self.inside.base; library = c.change.new.self; history = c.enter-in-Ok-change.new.history.items; failed = c.self.inside.failed.items })
    × IsMember (record { number = c.client.inside.number; receipts = c.enter-in-Ok-change.new.receipts.items }) c.enter-in-Ok-change.new.share.parts c.enter-in-Ok-change.new.share.amount
    × IsRecorded (record { base = c.self.inside.base; units = c.self.inside.library.units; history = c.self.inside.history.items }) (record { number = c.client.inside.number; receipts = c.client.inside.receipts.items }) (Change c.args.command) reply.Done
    (record { base = c.self.inside.base; units = c.change.new.self.units; history = c.enter-in-Ok-change.new.history.items }) (record { number = c.client.inside.number; receipts = c.enter-in-Ok-change.new.receipts.items }) c.enter-in-Ok-change.result
done_facts g c =
    let before : BookView g.row.D.Denot = record { base = c.self.inside.base; library = c.self.inside.library; history = c.self.inside.history.items; failed = c.self.inside.failed.items } in
    let old : MemberView = record { number = c.client.inside.number; receipts = c.client.inside.receipts.items } in
    let o = c.in-Ok-prepare.owners in
    let stood : LastStands before.history old.receipts = subst (λ (r : List Receipt). LastStands before.history r) c.as_slice-2.ensures.value (subst (λ (h : List Entry). LastStands h c.as_slice-2.result.now) c.as_slice.ensures.value c.in-Ok.ensures.ok) in
    let count : c.len.result ≡ length old.receipts = c.len.ensures ∙ sym c.as_slice-2.ensures.len ∙ ap length c.as_slice-2.ensures.value in
    let answered : c.reply.result ≡ reply.Done = c.reply.ensures ∙ ap answer_reply c.in-Done.is in
    let replied : reply.Done ≡ reply_of_change (apply before.library.units c.args.command) = sym (ap answer_reply c.in-Done.is) ∙ c.decide-answer.ensures ∙ ap (λ (k : LibraryCommand). reply_of_change (apply before.library.units k)) c.in-Ok-change_of.ensures.change in
    let entry : o.history ≡ entry_of old (Change c.args.command) reply.Done = c.in-Ok-prepare.ensures.owners.0 ∙ (λ i. record { client = old.number; call = count i + 1; asked = Change c.args.command; reply = answered i }) in
    let r = receipt_is c.enter-in-Ok-change.result (length c.prepare.new.history.items + 1) o.history c.enter-in-Ok-change.ensures.receipt in
    entering c.calls_are_recorded.ensures g.D.Disk g.N.Based.base c.self.inside.calls.total c.enter-in-Ok-change.new.calls.total before c.change.new.self old c.client.inside.share.parts c.client.inside.share.amount c.enter-in-Ok-change.new.share.parts c.enter-in-Ok-change.new.share.amount
    (Change c.args.command) reply.Done c.enter-in-Ok-change.new.history.items c.enter-in-Ok-change.new.receipts.items c.enter-in-Ok-change.result c.self.invariant c.client.invariant stood replied c.in-Ok-change_of.ensures.agrees
    (r.0 ∙ ap (λ (h : List Entry). length h + 1) c.in-Ok-prepare.ensures.history) (r.1 ∙ entry)
    (c.enter-in-Ok-change.ensures.history ∙ (λ i. c.in-Ok-prepare.ensures.history i ++ sym r.1 i ∷ [])) (c.enter-in-Ok-change.ensures.receipts ∙ ap (λ (l : List Receipt). l ++ c.enter-in-Ok-change.result ∷ []) c.in-Ok-prepare.ensures.receipts)
    c.enter-in-Ok-change.ensures.total c.enter-in-Ok-change.ensures.parts c.enter-in-Ok-change.ensures.amount (ap (λ (v : View g.row.D.Denot). v.units) c.in-Ok-change.ensures.changed.leaves ∙ ap (λ (k : LibraryCommand). after c.self.inside.library.units k) c.in-Ok-change_of.ensures.change) (ap (λ (v : View g.row.D.Denot). v.closed) c.in-Ok-change.ensures.changed.leaves ∙ sym (sym c.is_closed.ensures ∙ c.if-is_closed.false)) (λ h image left. subst (λ (l : List LibraryCommand). RecoversTo c.change.new.self.units l image) (sym (c.self.invariant.idle (sym c.is_closed.ensures ∙ c.if-is_closed.false))) (c.in-Ok-change.ensures.changed.kept h image left))

pub invariant_of-self-in-Ok-change : goal.invariant_of-self-in-Ok-change
invariant_of-self-in-Ok-change g c = (done_facts g c).0

pub invariant_of-client-in-Ok-change : goal.invariant_of-client-in-Ok-change
invariant_of-client-in-Ok-change g c = (done_facts g c).1

pub returns-in-Ok-change : goal.returns-in-Ok-change
returns-in-Ok-change g c =
    let D = g.D.Disk in
    let before : BookView g.row.D.Denot = record { base = c.self.inside.base; library = c.self.inside.library; history = c.self.inside.history.items; failed = c.self.inside.failed.items } in
    let old : MemberView = record { number = c.client.inside.number; receipts = c.client.inside.receipts.items } in
    let after_it : BookView g.row.D.Denot = record { base = c.self.inside.base; library = c.change.new.self; history = c.enter-in-Ok-change.new.history.items; failed = c.self.inside.failed.items } in
    let new : MemberView = record { number = c.client.inside.number; receipts = c.enter-in-Ok-change.new.receipts.items } in
    let idle : before.library.closed ≡ false = sym c.is_closed.ensures ∙ c.if-is_closed.false in
    let is : c.in-Ok-change_of.change ≡ c.args.command = c.in-Ok-change_of.ensures.change in
    let replied : reply.Done ≡ reply_of_change (apply before.library.units c.args.command) = sym (ap answer_reply c.in-Done.is) ∙ c.decide-answer.ensures ∙ ap (λ (k : LibraryCommand). reply_of_change (apply before.library.units k)) c.in-Ok-change_of.ensures.change in
    let answers = c.in-Ok-change.ensures.changed.answers in
    let recorded = (done_facts g c).2 in
    let done : IsDone before old c.args.command after_it new c.enter-in-Ok-change.result = record {
      asked = record { idle = idle; stands = recorded.stood; accepted = done_is_ok (apply before.library.units c.args.command) (sym replied) };
      fits = subst (λ (k : LibraryCommand). room_with before.library k ≤ before.library.area) is answers.1;
      recorded = recorded;
      library = c.in-Ok-change.ensures.changed.leaves ∙ (λ i. record { disk = c.change.new.self.disk; area = before.library.area; bodies = before.library.bodies ++ body_of (is i) ∷ []; units = after before.library.units (is i); closed = false });
      failed = refl;
    } in
    let answered : Result Receipt BookFault = Ok c.enter-in-Ok-change.result in
    let library = c.change.new.self in
    record {
      changed = subst (λ (b : BookView g.row.D.Denot). IsBookChanged D b c.args.client.now c.args.command after_it new answered) c.self.view_is
          (subst (λ (h : MemberView). IsBookChanged D before h c.args.command after_it new answered) c.client.view_is
          (record {
            answers = (done, answers.2);
            disk = λ h. subst (λ (k : LibraryCommand). ChangesDisk D k before.library library answered) is (c.in-Ok-change.ensures.changed.disk h);
            moments = λ h usable. subst (λ (k : LibraryCommand). LeavesOnly D.moment D.left_since before.library.disk library.disk (RecoversOneOf before.library.units (after before.library.units k))) is
                (c.in-Ok-change.ensures.changed.moments h usable);
            kept = (done_facts g c).0.images;
          }));
    }

pub invariant_of-self-in-Err-DiskFault : goal.invariant_of-self-in-Err-DiskFault
invariant_of-self-in-Err-DiskFault g c =
    let before : BookView g.row.D.Denot = record { base = c.self.inside.base; library = c.self.inside.library; history = c.self.inside.history.items; failed = c.self.inside.failed.items } in
    let idle : before.library.closed ≡ false = sym c.is_closed.ensures ∙ c.if-is_closed.false in
    (keeps_failed g.D.Disk g.N.Based.base c.self.inside.calls.total before c.change.new.self c.prepare.new.history.items c.and-failing.result.items c.args.command c.in-Ok-change_of.change
    c.self.invariant c.in-Ok-change_of.ensures.agrees c.in-Ok-prepare.ensures.history c.and-failing.ensures idle (rw c.in-Err-DiskFault.field-0-is at c.in-Err-DiskFault.ensures.changed.leaves) c.in-Ok-change_of.ensures.change (λ h image left. c.change.ensures.changed.images h idle image left)).1

pub returns-in-Err-DiskFault : goal.returns-in-Err-DiskFault
returns-in-Err-DiskFault g c =
    let D = g.D.Disk in
    let before : BookView g.row.D.Denot = record { base = c.self.inside.base; library = c.self.inside.library; history = c.self.inside.history.items; failed = c.self.inside.failed.items } in
    let old : MemberView = record { number = c.client.inside.number; receipts = c.client.inside.receipts.items } in
    let library = c.change.new.self in
    let after_it : BookView g.row.D.Denot = record { base = c.self.inside.base; library = library; history = c.prepare.new.history.items; failed = c.and-failing.result.items } in
    let new : MemberView = record { number = c.client.inside.number; receipts = c.prepare.new.receipts.items } in
    let answered : Result Receipt BookFault = Err DiskFault in
    let idle : before.library.closed ≡ false = sym c.is_closed.ensures ∙ c.if-is_closed.false in
    let is : c.in-Ok-change_of.change ≡ c.args.command = c.in-Ok-change_of.ensures.change in
    let stood : LastStands before.history old.receipts = subst (λ (r : List Receipt). LastStands before.history r) c.as_slice-2.ensures.value (subst (λ (h : List Entry). LastStands h c.as_slice-2.result.now) c.as_slice.ensures.value c.in-Ok.ensures.ok) in
    let replied : reply.Done ≡ reply_of_change (apply before.library.units c.args.command) = sym (ap answer_reply c.in-Done.is) ∙ c.decide-answer.ensures ∙ ap (λ (k : LibraryCommand). reply_of_change (apply before.library.units k)) c.in-Ok-change_of.ensures.change in
    let answers = rw c.in-Err-DiskFault.field-0-is at c.in-Err-DiskFault.ensures.changed.answers in
    let leaves = rw c.in-Err-DiskFault.field-0-is at c.in-Err-DiskFault.ensures.changed.leaves in
    let fails = rw c.in-Err-DiskFault.field-0-is at c.in-Err-DiskFault.ensures.changed.disk in
    let facts = keeps_failed D g.N.Based.base c.self.inside.calls.total before library c.prepare.new.history.items c.and-failing.result.items c.args.command c.in-Ok-change_of.change
    c.self.invariant c.in-Ok-change_of.ensures.agrees c.in-Ok-prepare.ensures.history c.and-failing.ensures idle leaves is (λ h image left. c.change.ensures.changed.images h idle image left) in
    record {
      changed = subst (λ (b : BookView g.row.D.Denot). IsBookChanged D b c.args.client.now c.args.command after_it new answered) c.self.view_is
          (subst (λ (h : MemberView). IsBookChanged D before h c.args.command after_it new answered) c.client.view_is
          (record {
            answers = (
              record { idle = idle; stands = stood; accepted = done_is_ok (apply before.library.units c.args.command) (sym replied) },
              subst (λ (k : LibraryCommand). room_with before.library k ≤ before.library.area) is answers.1,
              answers.2,
              λ k. record { base = before.base; library = leaves k; history = c.in-Ok-prepare.ensures.history k; failed = facts.0 k },
              λ k. record { number = old.number; receipts = c.in-Ok-prepare.ensures.receipts k },
            );
            disk = λ h. subst (λ (k : LibraryCommand). ChangesDisk {T = Receipt} D k before.library library (Err DiskFault)) is (fails h);
            moments = λ h usable. subst (λ (k : LibraryCommand). LeavesOnly D.moment D.left_since before.library.disk library.disk (RecoversOneOf before.library.units (after before.library.units k))) is
                (c.change.ensures.changed.moments h usable);
            kept = facts.1.images;
          }));
    }
