-- Only one exit puts an entry into the history; `entering` shows what has to hold there, as for a commit. A look-up hands in no
-- unit and changes nothing.
use Rattle.std.proofs.Common.{◌≡◌, ◌+◌, List, [], ◌∷◌, ◌++◌, length, refl, sym, ap, ◌∙◌, subst}
use Rattle.cc_library.specs.Change.{LibraryCommand}
use Rattle.cc_library.specs.Apply.{after_all}
use Rattle.cc_history.specs.declared.entry.Entry.{Entry}
use Rattle.cc_history.specs.declared.entry.Receipt.{Receipt}
use Rattle.cc_history.specs.Calls.{reply_of}
use Rattle.cc_history.specs.History.{MemberView, IsRecorded, LastStands, entry_of}
use Rattle.cc_recorded.specs.Book.{BookView, IsRecordedLibrary, chronicle_of}
use Rattle.cc_recorded.specs.Member.{IsMember}
use Rattle.cc_recorded.proofs.Committing.{entering, receipt_is, look_agrees, look_changes_nothing}
use Rattle.cc_recorded.proofs.recorded.RecordedLibrary.look.Given.{Over}
use Rattle.cc_recorded.proofs.recorded.RecordedLibrary.look.Goals as goal

facts : (g : Over) (c : goal.After-enter g)
    → IsRecordedLibrary g.D.Disk g.N.Based.base c.enter.new.calls.total (record { base = c.self.inside.base; library = c.self.inside.library; history = c.enter.new.history.items; failed = c.self.inside.failed.items })
    × IsMember (record { number = c.client.inside.number; receipts = c.enter.new.receipts.items }) c.enter.new.share.parts c.enter.new.share.amount
    × IsRecorded (record { base = c.self.inside.base; units = c.self.inside.library.units; history = c.self.inside.history.items }) (record { number = c.client.inside.number; receipts = c.client.inside.receipts.items }) c.args.asked (reply_of c.self.inside.library.units c.args.asked)
    (record { base = c.self.inside.base; units = c.self.inside.library.units; history = c.enter.new.history.items }) (record { number = c.client.inside.number; receipts = c.enter.new.receipts.items }) c.enter.result
facts g c =
    let before : BookView g.row.D.Denot = record { base = c.self.inside.base; library = c.self.inside.library; history = c.self.inside.history.items; failed = c.self.inside.failed.items } in
    let old : MemberView = record { number = c.client.inside.number; receipts = c.client.inside.receipts.items } in
    let o = c.in-Ok-prepare.owners in
    let answer = reply_of before.library.units c.args.asked in
    let stood : LastStands before.history old.receipts = subst (λ (r : List Receipt). LastStands before.history r) c.as_slice-2.ensures.value (subst (λ (h : List Entry). LastStands h c.as_slice-2.result.now) c.as_slice.ensures.value c.in-Ok.ensures.ok) in
    let count : c.len.result ≡ length old.receipts = c.len.ensures ∙ sym c.as_slice-2.ensures.len ∙ ap length c.as_slice-2.ensures.value in
    let answered : c.in-Ok-looked.reply ≡ answer = c.in-Ok-looked.ensures in
    let entry : o.history ≡ entry_of old c.args.asked answer = c.in-Ok-prepare.ensures.owners.0 ∙ (λ i. record { client = old.number; call = count i + 1; asked = c.args.asked; reply = answered i }) in
    let r = receipt_is c.enter.result (length c.prepare.new.history.items + 1) o.history c.enter.ensures.receipt in
    entering c.calls_are_recorded.ensures g.D.Disk g.N.Based.base c.self.inside.calls.total c.enter.new.calls.total before c.self.inside.library old c.client.inside.share.parts c.client.inside.share.amount c.enter.new.share.parts c.enter.new.share.amount
    c.args.asked answer c.enter.new.history.items c.enter.new.receipts.items c.enter.result c.self.invariant c.client.invariant stood refl (look_agrees c.args.asked c.requires)
    (r.0 ∙ ap (λ (h : List Entry). length h + 1) c.in-Ok-prepare.ensures.history) (r.1 ∙ entry)
    (c.enter.ensures.history ∙ (λ i. c.in-Ok-prepare.ensures.history i ++ sym r.1 i ∷ [])) (c.enter.ensures.receipts ∙ ap (λ (l : List Receipt). l ++ c.enter.result ∷ []) c.in-Ok-prepare.ensures.receipts)
    c.enter.ensures.total c.enter.ensures.parts c.enter.ensures.amount (ap (λ (l : List LibraryCommand). after_all before.library.units l) (sym (look_changes_nothing c.args.asked answer c.requires))) refl c.self.invariant.images

pub invariant_of-self-2 : goal.invariant_of-self-2
invariant_of-self-2 g c = (facts g c).0

pub invariant_of-client-2 : goal.invariant_of-client-2
invariant_of-client-2 g c = (facts g c).1

pub returns : goal.returns
returns g c =
    let before : BookView g.row.D.Denot = record { base = c.self.inside.base; library = c.self.inside.library; history = c.self.inside.history.items; failed = c.self.inside.failed.items } in
    let old : MemberView = record { number = c.client.inside.number; receipts = c.client.inside.receipts.items } in
    let after_it : BookView g.row.D.Denot = record { base = c.self.inside.base; library = c.self.inside.library; history = c.enter.new.history.items; failed = c.self.inside.failed.items } in
    let new : MemberView = record { number = c.client.inside.number; receipts = c.enter.new.receipts.items } in
    let at = λ (b : BookView g.row.D.Denot) (h : MemberView). IsRecorded (chronicle_of b) h c.args.asked (reply_of b.library.units c.args.asked) (chronicle_of after_it) new c.enter.result × (after_it.library ≡ b.library) × (after_it.failed ≡ b.failed) in
    subst (λ (b : BookView g.row.D.Denot). at b c.args.client.now) c.self.view_is (subst (λ (h : MemberView). at before h) c.client.view_is ((facts g c).2, refl, refl))
