use Rattle.cc_range.proofs.Covered.{learned_sound}
use Rattle.cc_range.proofs.laws.comparisons_are_learned.Goals as goal

pub returns : goal.returns
returns c = learned_sound
