-- What was prepared has this source and this mode, and the client made no call meanwhile.
use Rattle.std.proofs.Common.{◌∙◌}
use Rattle.cc_session.proofs.Putting.{put_as, put_from}
use Rattle.cc_session.proofs.calls.Player.change.Goals as goal

pub returns-in-Ok : goal.returns-in-Ok
returns-in-Ok g c =
    let name = c.args.name.now in
    let source = c.args.source.now in
    c.settle.ensures c.args.client.now.member
    (put_as c.args.put name c.in-Ok.prepared.mode c.args.self.now.mode c.in-Ok.prepared.text source c.look_ahead.new.client.member c.args.client.now.member c.put_prepared-answer.new.client.member
    c.put_prepared-answer.result c.in-Ok.ensures.mode c.in-Ok.ensures.text (c.look_ahead.ensures ∙ c.begun.ensures.member) c.put_prepared-answer.ensures.answers)

pub returns-in-Err : goal.returns-in-Err
returns-in-Err g c =
    let W = g.W.Write.contents in
    put_from c.put_anew.result c.args.self.now.mode c.args.put c.args.name.now c.args.source.now c.begun.new.client.member c.args.client.now.member c.put_anew.new.client.member
    (W c.args.answers.now) (W c.put_anew.new.answers) c.begun.ensures.member c.put_anew.ensures
