use Rattle.cc_wide_text.proofs.Ones as law
use Rattle.cc_wide_text.proofs.laws.wide_trees_are_one.Goals as goal

pub returns-clause-trees : goal.returns-clause-trees
returns-clause-trees c = law.marked_trees_are_one c.tokens_are_determined.ensures.one c.trees_are_determined.ensures.one

pub returns-clause-programs : goal.returns-clause-programs
returns-clause-programs c = law.wide_trees_are_one c.tokens_are_determined.ensures.one c.trees_are_determined.ensures.one
