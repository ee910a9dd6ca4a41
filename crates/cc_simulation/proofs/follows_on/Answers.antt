-- The bound for the second run gives the bound for the third.
use Rattle.cc_simulation.proofs.Behaving.{follows_trans, follows_on_for_all}
use Rattle.cc_simulation.proofs.follows_on.Goals as goal

pub returns-clause-each : goal.returns-clause-each
returns-clause-each g c = λ a b z. follows_trans a b z

pub returns-clause-for_all : goal.returns-clause-for_all
returns-clause-for_all g c = λ a b z. follows_on_for_all a b z
