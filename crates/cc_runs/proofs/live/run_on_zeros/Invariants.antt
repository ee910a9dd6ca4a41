-- So many instructions were executed, with zeros after the input.
use Rattle.std.proofs.Common.{◌≡◌, ◌+◌, ℕ, []}
use Rattle.cc_runs.specs.Live.{zeros}
use Rattle.cc_runs.specs.internal.Turning.{Moves}
use Rattle.cc_runs.proofs.live.run_on_zeros.Given as goal

abbrev pub invariant-loop-left : goal.invariant-loop-left
invariant-loop-left l = (n : ℕ) × (n + l.left ≡ l.steps) × ((k : ℕ) × Moves (zeros k) [] n l.initial.machine l.machine)

abbrev pub decreases-loop-left : goal.decreases-loop-left
decreases-loop-left l = l.left
