use Rattle.cc_rv32.specs.Simulation.{simulation_of}
use Rattle.cc_rv32.proofs.After.{at_start}
use Rattle.cc_rv32.proofs.On.{on_start}
use Rattle.cc_rv32.proofs.machine.Machine.restart.Goals as goal

pub returns-clause-start : goal.returns-clause-start
returns-clause-start c = at_start c.args.image.now c.args.input.now (simulation_of c.restart.new.self) c.in-Ok.ensures.code c.in-Ok.ensures.run

pub returns-clause-on : goal.returns-clause-on
returns-clause-on c = on_start c.args.image.now c.args.input.now (simulation_of c.restart.new.self) c.in-Ok.ensures.code c.in-Ok.ensures.run
