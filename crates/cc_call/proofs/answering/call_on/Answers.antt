use Rattle.cc_call.proofs.Answered.{calls_on}
use Rattle.cc_call.proofs.answering.call_on.Goals as goal

pub returns-clause-written : goal.returns-clause-written
returns-clause-written g c =
    let D = g.D.Disk in
    let W = g.W.Write in
    λ is. calls_on D.honest (D.seen c.args.disk) (D.failures c.args.disk) (D.failures c.call-found.result.1) c.args.name.now c.args.is_counted c.args.steps c.args.most c.args.words.now c.call-found.result.0
    (W.contents c.args.writer.now) (W.contents c.answer-called.new.writer) c.answer-called.result.done.status c.call-found.ensures.run c.call-found.ensures.refused (c.answer-called.ensures.written is)
