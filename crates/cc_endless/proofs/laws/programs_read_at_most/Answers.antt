use Rattle.cc_endless.proofs.Programs.{programs_read_at_most}
use Rattle.cc_endless.proofs.laws.programs_read_at_most.Goals as goal

pub returns : goal.returns
returns c = programs_read_at_most
