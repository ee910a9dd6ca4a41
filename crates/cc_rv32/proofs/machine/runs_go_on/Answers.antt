use Rattle.cc_rv32.proofs.Running.{machine_run-add, machine_run-ended}
use Rattle.cc_rv32.proofs.machine.runs_go_on.Goals as goal

pub returns-clause-additive : goal.returns-clause-additive
returns-clause-additive c = machine_run-add

pub returns-clause-ended : goal.returns-clause-ended
returns-clause-ended c = λ code n r h. machine_run-ended code n r.state r.outcome h
