use Rattle.cc_translate.proofs.Doing as law
use Rattle.cc_translate.proofs.laws.translated_texts_do_the_same.Goals as goal

pub returns-clause-same : goal.returns-clause-same
returns-clause-same c =
    law.do_the_same c.tokens_are_determined.ensures.one c.trees_are_determined.ensures.one c.wide_trees_are_one.ensures.programs c.translations_do_the_same.ensures.same

pub returns-clause-follow : goal.returns-clause-follow
returns-clause-follow c =
    law.followers_follow c.tokens_are_determined.ensures.one c.trees_are_determined.ensures.one c.wide_trees_are_one.ensures.programs c.translations_do_the_same.ensures.follow
