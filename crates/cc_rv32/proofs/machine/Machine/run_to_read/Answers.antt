use Rattle.std.proofs.Common.{◌-◌, unwrap_or, subst}
use Rattle.cc_rv32.specs.Simulation.{Simulation, simulation_of, Wrote}
use Rattle.cc_rv32.proofs.machine.Machine.run_to_read.Goals as goal

pub returns-clause-wrote : goal.returns-clause-wrote
returns-clause-wrote c =
    subst (λ (s : Simulation). Wrote s.code (c.args.steps - unwrap_or c.in-Ok.left 0) s (simulation_of c.run_to_read.new.simulator)) c.self.view_is c.in-Ok.ensures.wrote
