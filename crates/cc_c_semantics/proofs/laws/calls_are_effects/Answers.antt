use Rattle.cc_c_semantics.proofs.Effects as law
use Rattle.cc_c_semantics.proofs.laws.calls_are_effects.Goals as goal

pub returns : goal.returns
returns c = law.calls_are_effects
