-- If the device has not failed, the answer is that of the library.
use Rattle.std.proofs.Common.{◌≡◌, true, false, IsTrue, refl, sym, ◌∙◌, subst}
use Rattle.cc_journal.specs.Format.{AllHold}
use Rattle.cc_library.specs.Space.{IsSpace}
use Rattle.cc_recorded.specs.Book.{BookView}
use Rattle.cc_recorded.proofs.recorded.RecordedLibrary.space.Goals as goal

pub returns-then-is_closed-clause-answers : goal.returns-then-is_closed-clause-answers
returns-then-is_closed-clause-answers g c = (refl, subst (λ (b : BookView g.row.D.Denot). b.library.closed ≡ true) c.self.view_is (sym c.is_closed.ensures ∙ c.if-is_closed.true))

pub returns-clause-answers : goal.returns-clause-answers
returns-clause-answers g c =
    subst (λ (b : BookView g.row.D.Denot). (b.library.closed ≡ false) × IsSpace b.library.area b.library.bodies b.library.units c.space.result) c.self.view_is
    (sym c.is_closed.ensures ∙ c.if-is_closed.false, c.space.ensures.space)

pub returns-clause-kept : goal.returns-clause-kept
returns-clause-kept g c =
    let D = g.D.Disk in
    subst (λ (b : BookView g.row.D.Denot). IsTrue D.honest → AllHold (D.may_leave b.library.disk) b.library.area b.library.bodies) c.self.view_is
    (λ h. c.space.ensures.kept h (sym c.is_closed.ensures ∙ c.if-is_closed.false))
