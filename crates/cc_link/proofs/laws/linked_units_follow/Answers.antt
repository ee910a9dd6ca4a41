use Rattle.cc_link.proofs.Constants.{constants_are_kept}
use Rattle.cc_link.proofs.Certified.{made_certified_in}
use Rattle.cc_link.proofs.Linked.{units_follow, agree_in_agree}
use Rattle.cc_link.proofs.laws.linked_units_follow.Goals as goal

pub returns-clause-follow : goal.returns-clause-follow
returns-clause-follow c = let h = c.unit_laws.ensures in units_follow h.tokens h.trees h.meanings h.mains h.programs h.sized constants_are_kept

pub returns-clause-agree : goal.returns-clause-agree
returns-clause-agree c = agree_in_agree c.unit_laws.ensures.checked

pub returns-clause-certified : goal.returns-clause-certified
returns-clause-certified c = let h = c.unit_laws.ensures in made_certified_in h.tokens h.trees
