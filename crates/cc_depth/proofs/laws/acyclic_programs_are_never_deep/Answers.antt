use Rattle.cc_depth.proofs.Shallow.{never_deep}
use Rattle.cc_depth.proofs.laws.acyclic_programs_are_never_deep.Goals as goal

pub returns : goal.returns
returns c = never_deep
