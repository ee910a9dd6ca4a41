-- Without a device call the records stay, as the log's clauses say; if a device call was made, the log's clauses give the
-- journal's.
use Rattle.std.proofs.Common.{◌≡◌, ◌≤◌, [], ◌∷◌, ◌++◌, length, false, IsTrue, Err, sym, ap, subst, arith}
use Rattle.std.proofs.lemmas.Result.{err_from_is_err_and}
use Rattle.cc_disk.specs.Images.{LeavesOnly}
use Rattle.cc_journal.specs.Format.{HoldsOldOrNew, room_of}
use Rattle.cc_journal.specs.Answers.{AppendAnswers}
use Rattle.cc_journal.specs.Journal.{View}
use Rattle.cc_journal.specs.declared.fault.JournalFault.TheVariants.{DiskFault}
use Rattle.cc_journal.proofs.journal.Journal.append_body.Goals as goal

pub returns-in_err-takes-clause-answers : goal.returns-in_err-takes-clause-answers
returns-in_err-takes-clause-answers g c =
    let i = c.self.inside in
    let body = c.args.body in
    let p = err_from_is_err_and c.from_residual.result c.from_residual.ensures.1 in
    rw (p.1, p.2)
    (subst (λ (v : View g.row.D.Denot). AppendAnswers {T = Unit {0}} v.closed v.area v.bodies body (g.D.Disk.failures v.disk) (g.D.Disk.failures v.disk) (Err c.in_err-takes.field-0.0)) c.self.view_is
    (c.in_err-takes.ensures.answers body (g.D.Disk.failures i.log.disk) (sym (ap length c.as_slice.ensures))))

pub returns-in_err-takes-clause-closes : goal.returns-in_err-takes-clause-closes
returns-in_err-takes-clause-closes g c = λ e.
    let i = c.self.inside in
    let body = c.args.body in
    let p = err_from_is_err_and c.from_residual.result c.from_residual.ensures.1 in
    let fault : c.in_err-takes.field-0.0 ≡ DiskFault = cc in
    let none = subst (λ k. AppendAnswers {T = Unit {0}} i.log.closed i.log.area i.log.bodies body 0 0 (Err k)) fault (c.in_err-takes.ensures.answers body 0 (sym (ap length c.as_slice.ensures))) in
    absurd (omega (arith, none.2))

pub returns-in_err-takes-clause-moments : goal.returns-in_err-takes-clause-moments
returns-in_err-takes-clause-moments g c =
    let D = g.D.Disk in
    let body = c.args.body in
    subst (λ (v : View g.row.D.Denot). IsTrue D.honest → v.closed ≡ false → LeavesOnly D.moment D.left_since v.disk v.disk (HoldsOldOrNew v.area v.bodies body)) c.self.view_is
    (λ h not_closed. c.takes.ensures.still h not_closed body)

pub returns-in_err-reserve-clause-answers : goal.returns-in_err-reserve-clause-answers
returns-in_err-reserve-clause-answers g c =
    let i = c.self.inside in
    let body = c.args.body in
    let p = err_from_is_err_and c.from_residual-in_err-reserve.result c.from_residual-in_err-reserve.ensures.1 in
    rw (p.1, p.2)
    (subst (λ (v : View g.row.D.Denot). (v.closed ≡ false) × (room_of (v.bodies ++ body ∷ []) ≤ v.area) × (g.D.Disk.failures i.log.disk ≡ g.D.Disk.failures v.disk)) c.self.view_is
    (c.in_ok-takes.ensures.answers body (g.D.Disk.failures i.log.disk) (sym (ap length c.as_slice.ensures))))

pub returns-in_err-reserve-clause-moments : goal.returns-in_err-reserve-clause-moments
returns-in_err-reserve-clause-moments g c =
    let D = g.D.Disk in
    let i = c.self.inside in
    let body = c.args.body in
    subst (λ (v : View g.row.D.Denot). IsTrue D.honest → v.closed ≡ false → LeavesOnly D.moment D.left_since v.disk i.log.disk (HoldsOldOrNew v.area v.bodies body)) c.self.view_is
    (λ h not_closed. c.takes.ensures.still h not_closed body)
