use Rattle.cc_wide_text.proofs.Stays as law
use Rattle.cc_wide_text.proofs.laws.profile_units_stay.Goals as goal

pub returns : goal.returns
returns c = law.profile_units_stay
