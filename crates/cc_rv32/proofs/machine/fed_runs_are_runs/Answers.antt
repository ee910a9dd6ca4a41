use Rattle.cc_rv32.proofs.On.{on_output, on_outcome}
use Rattle.cc_rv32.proofs.machine.fed_runs_are_runs.Goals as goal

pub returns-clause-output : goal.returns-clause-output
returns-clause-output c = on_output

pub returns-clause-outcome : goal.returns-clause-outcome
returns-clause-outcome c = on_outcome
