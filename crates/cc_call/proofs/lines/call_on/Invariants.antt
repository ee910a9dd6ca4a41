-- This many lines of the input were answered.
use Rattle.std.specs.Prelude.{IfSome}
use Rattle.cc_call.proofs.Turns.{HasCalled}
use Rattle.cc_call.proofs.lines.call_on.Given as goal

abbrev pub invariant-loop-number : goal.invariant-loop-number
invariant-loop-number g l = IfSome (g.R.Read.remaining l.initial.reader)
    (λ input. HasCalled l.image l.is_counted l.steps l.most input (g.W.Write.contents l.initial.writer) l.number l.end (g.R.Read.remaining l.reader) (g.W.Write.contents l.writer))
