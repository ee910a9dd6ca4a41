use Rattle.cc_headline.proofs.Sorting.{made_built}
use Rattle.cc_headline.proofs.built.made_units_are_built.Goals as goal

pub returns : goal.returns
returns c = made_built c.tokens_are_determined.ensures.one c.trees_are_determined.ensures.one c.programs_call_main.ensures.main c.linked_units_follow.ensures.follow c.linked_units_follow.ensures.agree
