use Rattle.std.proofs.Common.{Err, Ok, [], refl}
use Rattle.cc_session.specs.Telling.{refusal_text}
use Rattle.cc_session.proofs.calls.Player.call_words.Goals as goal

pub returns-in-Ok : goal.returns-in-Ok
returns-in-Ok g c = (Ok c.in-Ok.found, c.in-Ok.ensures.answers, c.call_found.ensures.0, c.call_found.ensures.1, c.call_found.ensures.2)

pub returns-in-Err : goal.returns-in-Err
returns-in-Err g c = (Err c.in-Err.fault, c.in-Err.ensures.answers, refusal_text [] c.in-Err.fault, refl, c.refuse.ensures)
