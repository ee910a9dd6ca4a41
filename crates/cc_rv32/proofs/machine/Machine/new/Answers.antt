use Rattle.cc_rv32.proofs.After.{at_start}
use Rattle.cc_rv32.proofs.On.{on_start}
use Rattle.cc_rv32.proofs.machine.Machine.new.Goals as goal

pub returns-in-Ok : goal.returns-in-Ok
returns-in-Ok c = record {
  start = at_start c.args.image.now c.args.input.now _ c.in-Ok.ensures.code c.in-Ok.ensures.run;
  on = on_start c.args.image.now c.args.input.now _ c.in-Ok.ensures.code c.in-Ok.ensures.run;
}
