use Rattle.cc_c_semantics.proofs.Exact as exact
use Rattle.cc_c_semantics.proofs.laws.runs_go_on.Goals as goal

pub returns : goal.returns
returns c = exact.runs_go_on
