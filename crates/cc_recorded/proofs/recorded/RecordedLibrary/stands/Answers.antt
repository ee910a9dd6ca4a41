use Rattle.std.proofs.Common.{◌≡◌, ℕ, List, IfErr, OnErr, OnOk, ap, ◌∙◌, subst, map}
use Rattle.cc_history.specs.declared.entry.Entry.{Entry}
use Rattle.cc_history.specs.Closing.{ReceiptsStand, SomeoneAstray}
use Rattle.cc_recorded.specs.Book.{BookView}
use Rattle.cc_recorded.specs.Answers.{IsNotClosed}
use Rattle.cc_recorded.proofs.recorded.RecordedLibrary.stands.Goals as goal

pub returns-clause-err : goal.returns-clause-err
returns-clause-err g c =
    let history : c.as_slice.result.now ≡ c.args.self.now.history = c.as_slice.ensures.value ∙ ap (λ (b : BookView g.row.D.Denot). b.history) c.self.view_is in
    subst (λ (h : List Entry). IfErr c.stand_in.result (λ f. (made : ℕ) → IsNotClosed h made (map g.C.HasReceipts.member c.args.clients.now) f)) history c.stand_in.ensures.err

pub returns-clause-astray : goal.returns-clause-astray
returns-clause-astray g c =
    let history : c.as_slice.result.now ≡ c.args.self.now.history = c.as_slice.ensures.value ∙ ap (λ (b : BookView g.row.D.Denot). b.history) c.self.view_is in
    subst (λ (h : List Entry). OnErr c.stand_in.result (SomeoneAstray h (map g.C.HasReceipts.member c.args.clients.now))) history c.stand_in.ensures.astray

pub returns-clause-stand : goal.returns-clause-stand
returns-clause-stand g c =
    let history : c.as_slice.result.now ≡ c.args.self.now.history = c.as_slice.ensures.value ∙ ap (λ (b : BookView g.row.D.Denot). b.history) c.self.view_is in
    subst (λ (h : List Entry). OnOk c.stand_in.result (ReceiptsStand h (map g.C.HasReceipts.member c.args.clients.now))) history c.stand_in.ensures.stand
