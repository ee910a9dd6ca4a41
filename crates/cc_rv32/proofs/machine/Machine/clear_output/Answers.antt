use Rattle.std.proofs.Common.{◌≡◌, [], subst}
use Rattle.cc_rv32.specs.Simulation.{Simulation, simulation_of}
use Rattle.cc_rv32.proofs.On.{on_cleared}
use Rattle.cc_rv32.proofs.machine.Machine.clear_output.Goals as goal

pub returns-clause-cleared : goal.returns-clause-cleared
returns-clause-cleared c =
    subst (λ (s : Simulation). simulation_of c.clear_output.new.self ≡ record s { output = [] }) c.self.view_is c.clear_output.ensures.cleared

pub returns-clause-on : goal.returns-clause-on
returns-clause-on c = λ image input given done a.
    on_cleared image input given done c.args.self.now (simulation_of c.clear_output.new.self)
    (subst (λ (s : Simulation). simulation_of c.clear_output.new.self ≡ record s { output = [] }) c.self.view_is c.clear_output.ensures.cleared) a
