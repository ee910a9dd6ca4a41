use Rattle.cc_wide.proofs.Translations as law
use Rattle.cc_wide.proofs.laws.translations_do_the_same.Goals as goal

pub returns-clause-same : goal.returns-clause-same
returns-clause-same c = law.translations_do_the_same

pub returns-clause-follow : goal.returns-clause-follow
returns-clause-follow c = law.followers_follow

pub returns-clause-words : goal.returns-clause-words
returns-clause-words c = law.translations_write_the_same
