-- Some instructions have been executed, and `left` of the steps are left.
use Rattle.std.proofs.Common.{◌≡◌, ◌+◌, ℕ}
use Rattle.cc_rv32.specs.Simulation.{IsAfter}
use Rattle.cc_session.proofs.patience.run_in_slices.Given as goal

abbrev pub invariant-loop-left : goal.invariant-loop-left
invariant-loop-left g l = (done : ℕ) × (done + l.left ≡ l.steps) × IsAfter l.image l.words done l.machine

abbrev pub decreases-loop-left : goal.decreases-loop-left
decreases-loop-left g l = l.left
