use Rattle.cc_guard.proofs.Unguarded.{unguarded_stays}
use Rattle.cc_guard.proofs.laws.unguarded_code_stays.Goals as goal

pub returns : goal.returns
returns c = unguarded_stays
