use Rattle.std.proofs.Common.{inl}
use Rattle.cc_call.proofs.answering.call_image.Goals as goal

pub returns-in-Ok-clause-written : goal.returns-in-Ok-clause-written
returns-in-Ok-clause-written g c = λ is. inl (c.in-Ok.run', c.in-Ok.ensures, c.answer_run.ensures.written is)
