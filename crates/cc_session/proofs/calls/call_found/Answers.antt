-- What is written is what the image of the unit does on the words; or it could not be written.
use Rattle.std.proofs.Common.{inr, refl}
use Rattle.cc_session.specs.Telling.{no_memory_text}
use Rattle.cc_session.proofs.calls.call_found.Goals as goal

pub returns-in-Ok : goal.returns-in-Ok
returns-in-Ok g c = (no_memory_text, inr refl, (refl, tt))

pub returns : goal.returns
returns g c = (no_memory_text, inr refl, c.tell_no_memory.ensures)
