use Rattle.cc_endless.proofs.Images.{images_ignore_more, images_ignore_rest}
use Rattle.cc_endless.proofs.laws.images_stay_within.Goals as goal

pub returns-clause-more : goal.returns-clause-more
returns-clause-more c = images_ignore_more

pub returns-clause-rest : goal.returns-clause-rest
returns-clause-rest c = images_ignore_rest
