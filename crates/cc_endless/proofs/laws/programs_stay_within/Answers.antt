use Rattle.cc_endless.proofs.Programs.{programs_ignore_more, programs_ignore_rest}
use Rattle.cc_endless.proofs.laws.programs_stay_within.Goals as goal

pub returns-clause-more : goal.returns-clause-more
returns-clause-more c = programs_ignore_more

pub returns-clause-rest : goal.returns-clause-rest
returns-clause-rest c = programs_ignore_rest
