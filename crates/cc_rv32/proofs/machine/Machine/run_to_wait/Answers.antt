use Rattle.std.proofs.Common.{◌-◌, unwrap_or, ap, ◌∙◌, subst}
use Rattle.cc_rv32.specs.Simulation.{Simulation, simulation_of, WentWithin}
use Rattle.cc_rv32.proofs.On.{on_went}
use Rattle.cc_rv32.proofs.machine.Machine.run_to_wait.Goals as goal

pub returns-clause-went : goal.returns-clause-went
returns-clause-went c =
    subst (λ (s : Simulation). WentWithin s.code (c.args.steps - unwrap_or c.in-Ok.left 0) s (simulation_of c.run_to_wait.new.simulator)) c.self.view_is c.in-Ok.ensures.went

pub returns-clause-on : goal.returns-clause-on
returns-clause-on c = λ image input given done a.
    on_went image input given done (c.args.steps - unwrap_or c.in-Ok.left 0) c.args.self.now (simulation_of c.run_to_wait.new.simulator)
    (c.in-Ok.ensures.code ∙ ap (λ (s : Simulation). s.code) c.self.view_is)
    (subst (λ (s : Simulation). WentWithin s.code (c.args.steps - unwrap_or c.in-Ok.left 0) s (simulation_of c.run_to_wait.new.simulator)) c.self.view_is c.in-Ok.ensures.went) a
