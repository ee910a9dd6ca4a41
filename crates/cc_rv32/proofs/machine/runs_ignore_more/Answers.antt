use Rattle.cc_rv32.proofs.On.{ignores_more}
use Rattle.cc_rv32.proofs.machine.runs_ignore_more.Goals as goal

pub returns : goal.returns
returns c = ignores_more
