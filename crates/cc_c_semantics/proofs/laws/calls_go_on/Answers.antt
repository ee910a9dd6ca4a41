use Rattle.cc_c_semantics.proofs.Effects as law
use Rattle.cc_c_semantics.proofs.laws.calls_go_on.Goals as goal

pub returns-clause-calls : goal.returns-clause-calls
returns-clause-calls c = law.calls_go_on

pub returns-clause-bodies : goal.returns-clause-bodies
returns-clause-bodies c = law.bodies_go_on
