use Rattle.cc_c_semantics.proofs.Exact as exact
use Rattle.cc_c_semantics.proofs.laws.observed_runs_go_on.Goals as goal

pub returns : goal.returns
returns c = exact.observed_runs_go_on
