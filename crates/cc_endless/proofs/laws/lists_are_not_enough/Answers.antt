use Rattle.cc_endless.proofs.Dividing.{divisions_go_wrong, divisions_go_on, fives_go_on, images_of_divisions_go_on}
use Rattle.cc_endless.proofs.laws.lists_are_not_enough.Goals as goal

pub returns-clause-lists : goal.returns-clause-lists
returns-clause-lists c = divisions_go_wrong

pub returns-clause-endless : goal.returns-clause-endless
returns-clause-endless c = divisions_go_on

pub returns-clause-fives : goal.returns-clause-fives
returns-clause-fives c = fives_go_on

pub returns-clause-images : goal.returns-clause-images
returns-clause-images c = images_of_divisions_go_on
