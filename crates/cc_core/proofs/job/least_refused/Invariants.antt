-- No piece so far was refused, so the first refusal among the rest is the first of all.
use Rattle.std.proofs.Common.{◌≡◌, drop}
use Rattle.cc_core.specs.Job.{first_refused}
use Rattle.cc_core.proofs.job.least_refused.Given as goal

abbrev pub invariant-loop-progress : goal.invariant-loop-progress
invariant-loop-progress g l = first_refused (drop l.progress-index l.pieces) ≡ first_refused l.pieces
