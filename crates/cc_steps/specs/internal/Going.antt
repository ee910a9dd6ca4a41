-- How far a machine goes while what it reads and writes is kept.
use Rattle.std.specs.Prelude.{◌≡◌, ℕ, ◌-◌, List}
use Rattle.cc_meaning.specs.Erase.{events_tree}
use Rattle.cc_meaning.specs.declared.outcome.Event.{Event}
use Rattle.cc_rv32.specs.Machine.{machine_run}
use Rattle.cc_rv32.specs.Simulation.{Simulation, run_with}

-- from one machine to another with fewer instructions left: the events that were kept are those of its run
pub record Went (left rest : ℕ) (m : Simulation) (before : List Event) (t : Simulation) (after : List Event) : Type 0 where
  pub code : t.code ≡ m.code
  pub run : run_with (events_tree after) t ≡ machine_run m.code (left - rest) (run_with (events_tree before) m)
