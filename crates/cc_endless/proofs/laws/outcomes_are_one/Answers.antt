use Rattle.cc_endless.proofs.Agreeing.{programs_show_one_outcome, images_show_one_outcome}
use Rattle.cc_endless.proofs.laws.outcomes_are_one.Goals as goal

pub returns-clause-programs : goal.returns-clause-programs
returns-clause-programs c = programs_show_one_outcome

pub returns-clause-images : goal.returns-clause-images
returns-clause-images c = images_show_one_outcome
