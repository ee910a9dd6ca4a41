-- The registers that the steps so far write, and those that the rest write, are all the registers that the
-- steps write.
use Rattle.cc_emit.proofs.Kept.{Found}
use Rattle.cc_emit.proofs.frame.written.Given as goal

abbrev pub invariant-loop-step : goal.invariant-loop-step
invariant-loop-step l = Found l.code l.step-index l.written
