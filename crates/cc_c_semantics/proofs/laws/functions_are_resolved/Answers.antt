use Rattle.cc_c_semantics.proofs.Resolving as law
use Rattle.cc_c_semantics.proofs.laws.functions_are_resolved.Goals as goal

pub returns : goal.returns
returns c = law.functions_are_resolved
