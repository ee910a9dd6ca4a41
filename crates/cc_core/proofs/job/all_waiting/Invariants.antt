-- All pieces so far wait.
use Rattle.std.proofs.Common.{◌≡◌}
use Rattle.std.specs.Prelude.{replicate}
use Rattle.cc_core.specs.declared.job.Progress.TheVariants.{Waiting}
use Rattle.cc_core.proofs.job.all_waiting.Given as goal

abbrev pub invariant-loop : goal.invariant-loop
invariant-loop g l = l.pieces ≡ replicate l.counter Waiting
