-- Each clause is a lemma of Turns about how a run goes on.
use Rattle.cc_core.proofs.Turns.{step_turn, Run-append, no_job, no_work, can_be_ready}
use Rattle.cc_core.proofs.laws.turn_law.Goals as goal

pub returns-clause-turn : goal.returns-clause-turn
returns-clause-turn g c = λ old new event reply step hands spelled. step_turn g.B.Build.rules g.B.Build.keeps old event reply new step hands spelled

pub returns-clause-goes_on : goal.returns-clause-goes_on
returns-clause-goes_on g c = λ old mid new events later first second. Run-append g.B.Build.rules g.B.Build.keeps old events mid later new first second

pub returns-clause-no_job : goal.returns-clause-no_job
returns-clause-no_job g c = λ old new event reply step not k none. no_job g.B.Build.rules old event reply new step not k none

pub returns-clause-no_work : goal.returns-clause-no_work
returns-clause-no_work g c = λ old new event reply step not k none. no_work g.B.Build.rules old event reply new step not k none

pub returns-clause-ready : goal.returns-clause-ready
returns-clause-ready g c = λ old client worker command up free idle built. can_be_ready g.B.Build.rules g.B.Build.keeps old client worker up free idle command built
