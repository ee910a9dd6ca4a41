use Rattle.cc_link.proofs.InWords.{agree_in_words, agree_in_mode_in_words}
use Rattle.cc_link.proofs.laws.agreement_in_words.Goals as goal

pub returns-clause-plain : goal.returns-clause-plain
returns-clause-plain c = agree_in_words

pub returns-clause-mode : goal.returns-clause-mode
returns-clause-mode c = agree_in_mode_in_words
