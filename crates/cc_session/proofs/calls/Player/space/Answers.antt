-- No client made a call.
use Rattle.cc_session.proofs.Obeying.{tells_room}
use Rattle.cc_session.proofs.calls.Player.space.Goals as goal

pub returns : goal.returns
returns g c = λ client. tells_room c.tell_room.result client (g.W.Write.contents c.args.answers.now) (g.W.Write.contents c.tell_room.new.answers) c.space-answer.result c.space-answer.ensures.answers c.tell_room.ensures
