use Rattle.cc_c_semantics.proofs.Checked as law
use Rattle.cc_c_semantics.proofs.laws.programs_are_checked.Goals as goal

pub returns-clause-checked : goal.returns-clause-checked
returns-clause-checked c = law.programs_are_checked

pub returns-clause-follows : goal.returns-clause-follows
returns-clause-follows c = law.checked_follows

pub returns-clause-words : goal.returns-clause-words
returns-clause-words c = law.checked_follows_in_words
