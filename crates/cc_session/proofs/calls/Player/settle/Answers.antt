-- The unit is put once more by the same client, or the answer is written.
use Rattle.std.proofs.Common.{refl}
use Rattle.cc_session.specs.Telling.{change_text}
use Rattle.cc_session.proofs.Putting.{put_from, put_not}
use Rattle.cc_session.proofs.calls.Player.settle.Goals as goal

pub returns-then-is_short : goal.returns-then-is_short
returns-then-is_short g c = λ old told.
    let W = g.W.Write.contents in
    put_from c.put_anew.result c.args.self.now.mode c.args.put c.args.name.now c.args.source.now c.args.client.now.member old c.put_anew.new.client.member
    (W c.args.answers.now) (W c.put_anew.new.answers)
    (put_not c.args.self.now.mode c.args.put c.args.name.now c.args.source.now old c.args.client.now.member c.args.answer (c.is_short.ensures c.if-is_short.true) told) c.put_anew.ensures

pub returns : goal.returns
returns g c = λ old told. (c.args.answer, told, change_text c.args.source.now c.args.answer, refl, c.tell_change.ensures)
