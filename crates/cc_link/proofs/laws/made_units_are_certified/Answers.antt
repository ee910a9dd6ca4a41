use Rattle.cc_link.proofs.Certified.{made_certified}
use Rattle.cc_link.proofs.laws.made_units_are_certified.Goals as goal

pub returns : goal.returns
returns c = let h = c.unit_laws.ensures in made_certified h.tokens h.trees
