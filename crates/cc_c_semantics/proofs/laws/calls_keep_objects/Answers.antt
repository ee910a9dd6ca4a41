use Rattle.cc_c_semantics.proofs.Kept as law
use Rattle.cc_c_semantics.proofs.laws.calls_keep_objects.Goals as goal

pub returns-clause-calls : goal.returns-clause-calls
returns-clause-calls c = law.calls_keep_objects

pub returns-clause-bodies : goal.returns-clause-bodies
returns-clause-bodies c = law.bodies_keep_objects
