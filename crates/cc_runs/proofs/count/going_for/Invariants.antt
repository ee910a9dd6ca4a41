-- After the instructions executed so far, the run is still going.
use Rattle.std.proofs.Common.{◌≡◌, ◌+◌, ℕ}
use Rattle.cc_rv32.specs.declared.outcome.MachineOutcome.TheVariants.{Going}
use Rattle.cc_rv32.specs.Machine.{machine_behavior}
use Rattle.cc_rv32.specs.Simulation.{IsAfter}
use Rattle.cc_runs.proofs.count.going_for.Given as goal

abbrev pub invariant-loop-left : goal.invariant-loop-left
invariant-loop-left l = (done : ℕ) × (done + l.left ≡ l.steps) × IsAfter l.image l.words done l.machine × ((machine_behavior l.image l.words done).outcome ≡ Going)

abbrev pub decreases-loop-left : goal.decreases-loop-left
decreases-loop-left l = l.left
