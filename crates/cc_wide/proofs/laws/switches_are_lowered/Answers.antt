use Rattle.cc_wide.proofs.Programs as law
use Rattle.cc_wide.proofs.laws.switches_are_lowered.Goals as goal

pub returns : goal.returns
returns c = law.switches_are_lowered
