-- A label that is in the list is found.
use Rattle.cc_linear.proofs.ByPlace.{not_missing}
use Rattle.cc_linear.proofs.places.place.Goals as goal

pub unreachable-requires : goal.unreachable-requires
unreachable-requires c = absurd (not_missing c.args.labels.now c.args.label c.binary_search.result _ c.binary_search.ensures.position c.requires.labels.rising c.requires.there c.in-Err.is)
