-- This many lines of the input were answered, if a run has begun on the machine.
use Rattle.std.specs.Prelude.{IfSome}
use Rattle.cc_rv32.specs.declared.image.Image.{Image}
use Rattle.cc_runs.specs.internal.Turning.{Begins}
use Rattle.cc_runs.proofs.Turns.{HasGone}
use Rattle.cc_runs.proofs.live.answer_lines.Given as goal

abbrev pub invariant-loop-number : goal.invariant-loop-number
invariant-loop-number g l = IfSome (g.R.Read.remaining l.initial.reader)
    (λ input. (image : Image) → Begins image l.steps l.initial.left l.initial.machine
    → HasGone image l.steps input (g.W.Write.contents l.initial.writer) l.number l.machine l.left l.has_bad_line (g.R.Read.remaining l.reader) (g.W.Write.contents l.writer))
