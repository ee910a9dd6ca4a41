-- The events so far are those of the instructions that have been executed.
use Rattle.std.proofs.Common.{◌≡◌, ◌≤◌, ◌-◌, unwrap_or}
use Rattle.cc_meaning.specs.Erase.{events_tree}
use Rattle.cc_rv32.specs.Machine.{machine_run, start}
use Rattle.cc_rv32.specs.Simulation.{run_with}
use Rattle.cc_steps.proofs.Observing.{left_of}
use Rattle.cc_steps.proofs.observe.run_exchanges.Given as goal

abbrev pub invariant-loop-left : goal.invariant-loop-left
invariant-loop-left l =
    (l.machine.code ≡ l.image.code) × (unwrap_or l.left 0 ≤ l.steps)
    × (run_with (events_tree l.events.items) l.machine ≡ machine_run l.image.code (l.steps - unwrap_or l.left 0) (start l.image l.words))

abbrev pub decreases-loop-left : goal.decreases-loop-left
decreases-loop-left l = left_of l.left
