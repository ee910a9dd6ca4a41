use Rattle.cc_wide.proofs.Places as law
use Rattle.cc_wide.proofs.laws.places_mean_nothing.Goals as goal

pub returns : goal.returns
returns c = law.places_mean_nothing
