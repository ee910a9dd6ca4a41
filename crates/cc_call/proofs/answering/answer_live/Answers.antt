use Rattle.cc_call.proofs.Answered.{live_told, live_unwritten}
use Rattle.cc_call.proofs.answering.answer_live.Goals as goal

pub returns-clause-written : goal.returns-clause-written
returns-clause-written g c =
    let W = g.W.Write in
    let e = c.live_done.ensures in
    live_told c.args.image.now c.args.steps c.args.reads_zeros (g.R.Read.remaining c.args.reader.now) (W.contents c.args.writer.now) (W.contents c.call_live-end.new.writer) c.call_live-end.result c.live_done.result
    c.call_live-end.ensures.turns e.ended e.bad e.refused e.unwritten

pub returns-clause-unwritten : goal.returns-clause-unwritten
returns-clause-unwritten g c =
    let e = c.live_done.ensures in
    live_unwritten c.call_live-end.result c.live_done.result e.ended e.bad e.refused e.unwritten
