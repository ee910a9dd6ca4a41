-- The machine has executed `done` instructions, after fewer the run is still going, and it has written no more words than it may.
use Rattle.std.proofs.Common.{◌≡◌, ◌+◌, ◌<◌, ℕ}
use Rattle.cc_rv32.specs.declared.outcome.MachineOutcome.TheVariants.{Going}
use Rattle.cc_rv32.specs.Machine.{machine_behavior}
use Rattle.cc_rv32.specs.Simulation.{IsAfter}
use Rattle.cc_runs.specs.Within.{IsFew}
use Rattle.cc_runs.proofs.count.count_on.Given as goal

abbrev pub invariant-loop-left : goal.invariant-loop-left
invariant-loop-left l =
    (done : ℕ) × (done + l.left ≡ l.steps) × IsAfter l.image l.words done l.machine × IsFew l.most l.machine.output
    × ((n : ℕ) → n < done → (machine_behavior l.image l.words n).outcome ≡ Going)

abbrev pub decreases-loop-left : goal.decreases-loop-left
decreases-loop-left l = l.left
