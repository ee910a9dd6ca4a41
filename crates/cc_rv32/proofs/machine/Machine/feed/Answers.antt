use Rattle.std.proofs.Common.{◌≡◌, ◌++◌, subst}
use Rattle.cc_rv32.specs.Simulation.{Simulation, simulation_of}
use Rattle.cc_rv32.proofs.On.{on_fed}
use Rattle.cc_rv32.proofs.machine.Machine.feed.Goals as goal

pub returns-clause-fed : goal.returns-clause-fed
returns-clause-fed c =
    subst (λ (s : Simulation). simulation_of c.feed.new.self ≡ record s { input = s.input ++ c.args.words.now }) c.self.view_is c.in-Ok.ensures.fed

pub returns-clause-on : goal.returns-clause-on
returns-clause-on c = λ image input given done a.
    on_fed image input given c.args.words.now done c.args.self.now (simulation_of c.feed.new.self)
    (subst (λ (s : Simulation). simulation_of c.feed.new.self ≡ record s { input = s.input ++ c.args.words.now }) c.self.view_is c.in-Ok.ensures.fed) a
