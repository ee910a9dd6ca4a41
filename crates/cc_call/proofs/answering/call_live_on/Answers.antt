-- The unit that was found is the one that runs.
use Rattle.std.proofs.Common.{◌≡◌, IsTrue, sym, subst}
use Rattle.cc_unit.specs.declared.unit.StoredUnit.{StoredUnit}
use Rattle.cc_call.specs.Call.{IsUnitOn}
use Rattle.cc_call.proofs.Answered.{live_on, live_refused}
use Rattle.cc_call.proofs.answering.call_live_on.Goals as goal

pub returns-in-Ok-clause-written : goal.returns-in-Ok-clause-written
returns-in-Ok-clause-written g c =
    let D = g.D.Disk in
    let W = g.W.Write in
    let same : c.deref.result.now ≡ c.in-Ok.unit.value = c.deref.ensures in
    let kept = subst (λ (unit : StoredUnit). IsTrue D.honest → IsUnitOn (D.seen c.args.disk) c.args.name.now unit) (sym same) c.in-Ok.ensures.found in
    λ is. live_on D.honest (D.seen c.args.disk) (D.failures c.args.disk) c.args.name.now c.args.steps c.args.reads_zeros c.deref.result.now (g.R.Read.remaining c.args.reader.now)
    (W.contents c.args.writer.now) (W.contents c.answer_live-done.new.writer) c.answer_live-done.result.status kept (c.answer_live-done.ensures.written is)

pub returns-in-Err-clause-written : goal.returns-in-Err-clause-written
returns-in-Err-clause-written g c =
    let D = g.D.Disk in
    let W = g.W.Write in
    λ is. live_refused D.honest (D.seen c.args.disk) (D.failures c.args.disk) c.args.name.now c.args.steps c.args.reads_zeros c.in-Err.fault (g.R.Read.remaining c.args.reader.now)
    (W.contents c.args.writer.now) (W.contents c.answer_fault.new.writer) c.answer_fault.result.status c.in-Err.ensures.refused (c.answer_fault.ensures.written is)
