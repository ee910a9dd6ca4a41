use Rattle.cc_range.proofs.Sound.{unary_sound, binary_sound}
use Rattle.cc_range.proofs.laws.operators_are_sound.Goals as goal

pub returns-clause-unary : goal.returns-clause-unary
returns-clause-unary c = unary_sound

pub returns-clause-binary : goal.returns-clause-binary
returns-clause-binary c = binary_sound
