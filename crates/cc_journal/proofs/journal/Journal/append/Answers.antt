-- Without a device call the records stay, as the log's clauses say; if a device call was made, the log's clauses give the
-- journal's.
use Rattle.std.proofs.Common.{◌≡◌, ◌≤◌, [], ◌∷◌, ◌++◌, false, IsTrue, Err, refl, subst, arith}
use Rattle.std.proofs.lemmas.Result.{err_from_is_err_and}
use Rattle.cc_disk.specs.Images.{LeavesOnly}
use Rattle.cc_journal.specs.Format.{HoldsOldOrNew, room_of}
use Rattle.cc_journal.specs.Answers.{AppendAnswers}
use Rattle.cc_journal.specs.Journal.{View}
use Rattle.cc_journal.specs.declared.fault.JournalFault.TheVariants.{DiskFault}
use Rattle.cc_journal.proofs.journal.Journal.append.Goals as goal

pub returns-in_err-takes-clause-answers : goal.returns-in_err-takes-clause-answers
returns-in_err-takes-clause-answers g c =
    let i = c.self.inside in
    let body = c.args.body.now in
    let p = err_from_is_err_and c.from_residual.result c.from_residual.ensures.1 in
    rw (p.1, p.2)
    (subst (λ (v : View g.row.D.Denot). AppendAnswers {T = Unit {0}} v.closed v.area v.bodies body (g.D.Disk.failures v.disk) (g.D.Disk.failures v.disk) (Err c.in_err-takes.field-0.0)) c.self.view_is
    (c.in_err-takes.ensures.answers body (g.D.Disk.failures i.log.disk) refl))

pub returns-in_err-takes-clause-closes : goal.returns-in_err-takes-clause-closes
returns-in_err-takes-clause-closes g c = λ e.
    let i = c.self.inside in
    let body = c.args.body.now in
    let p = err_from_is_err_and c.from_residual.result c.from_residual.ensures.1 in
    let fault : c.in_err-takes.field-0.0 ≡ DiskFault = cc in
    let none = subst (λ k. AppendAnswers {T = Unit {0}} i.log.closed i.log.area i.log.bodies body 0 0 (Err k)) fault (c.in_err-takes.ensures.answers body 0 refl) in
    absurd (omega (arith, none.2))

pub returns-in_err-takes-clause-moments : goal.returns-in_err-takes-clause-moments
returns-in_err-takes-clause-moments g c =
    let D = g.D.Disk in
    let body = c.args.body.now in
    subst (λ (v : View g.row.D.Denot). IsTrue D.honest → v.closed ≡ false → LeavesOnly D.moment D.left_since v.disk v.disk (HoldsOldOrNew v.area v.bodies body)) c.self.view_is
    (λ h not_closed. c.takes.ensures.still h not_closed body)

pub returns-in_err-bytes-clause-answers : goal.returns-in_err-bytes-clause-answers
returns-in_err-bytes-clause-answers g c =
    let i = c.self.inside in
    let body = c.args.body.now in
    let p = err_from_is_err_and c.from_residual-in_err-bytes.result c.from_residual-in_err-bytes.ensures.1 in
    rw (p.1, p.2)
    (subst (λ (v : View g.row.D.Denot). (v.closed ≡ false) × (room_of (v.bodies ++ body ∷ []) ≤ v.area) × (g.D.Disk.failures v.disk ≡ g.D.Disk.failures v.disk)) c.self.view_is
    (c.in_ok-takes.ensures.answers body (g.D.Disk.failures i.log.disk) refl))

pub returns-in_err-bytes-clause-moments : goal.returns-in_err-bytes-clause-moments
returns-in_err-bytes-clause-moments g c =
    let D = g.D.Disk in
    let i = c.self.inside in
    let body = c.args.body.now in
    subst (λ (v : View g.row.D.Denot). IsTrue D.honest → v.closed ≡ false → LeavesOnly D.moment D.left_since v.disk v.disk (HoldsOldOrNew v.area v.bodies body)) c.self.view_is
    (λ h not_closed. c.takes.ensures.still h not_closed body)

pub framed-requires : goal.framed-requires
framed-requires g c = omega (arith, c.in_ok-takes.ensures.short)

pub from_framed-requires : goal.from_framed-requires
from_framed-requires g c = (c.args.body.now, omega (arith, c.in_ok-takes.ensures.short), c.in_ok-bytes.ensures)
