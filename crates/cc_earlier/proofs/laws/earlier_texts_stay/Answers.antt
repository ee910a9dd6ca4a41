use Rattle.cc_earlier.proofs.Texts.{earlier_trees_stay, no_tree_is_new, earlier_rules_stay, earlier_meaning_stays}
use Rattle.cc_earlier.proofs.laws.earlier_texts_stay.Goals as goal

pub returns-clause-trees : goal.returns-clause-trees
returns-clause-trees c = earlier_trees_stay c.tokens_are_determined.ensures.one c.trees_are_determined.ensures.one

pub returns-clause-none_new : goal.returns-clause-none_new
returns-clause-none_new c = no_tree_is_new

pub returns-clause-rules : goal.returns-clause-rules
returns-clause-rules c = earlier_rules_stay

pub returns-clause-meaning : goal.returns-clause-meaning
returns-clause-meaning c = earlier_meaning_stays
