use Rattle.cc_guard.proofs.Few.{guards_set_few}
use Rattle.cc_guard.proofs.laws.guards_set_few.Goals as goal

pub returns : goal.returns
returns c = guards_set_few
