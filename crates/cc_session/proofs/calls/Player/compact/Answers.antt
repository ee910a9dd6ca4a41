-- No client made a call.
use Rattle.cc_session.proofs.Obeying.{tells_done}
use Rattle.cc_session.proofs.calls.Player.compact.Goals as goal

pub returns : goal.returns
returns g c = λ client. tells_done c.tell_done.result client (g.W.Write.contents c.args.answers.now) (g.W.Write.contents c.tell_done.new.answers) c.compact-answer.result c.compact-answer.ensures c.tell_done.ensures
