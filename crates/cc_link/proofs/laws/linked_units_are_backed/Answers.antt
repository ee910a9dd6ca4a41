use Rattle.cc_link.proofs.Constants.{constants_are_kept}
use Rattle.cc_link.proofs.Linked.{units_are_backed}
use Rattle.cc_link.proofs.laws.linked_units_are_backed.Goals as goal

pub returns : goal.returns
returns c = let h = c.unit_laws.ensures in units_are_backed h.tokens h.trees h.meanings h.mains h.programs h.sized constants_are_kept
