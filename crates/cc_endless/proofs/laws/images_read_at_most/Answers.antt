use Rattle.cc_endless.proofs.Images as images
use Rattle.cc_endless.proofs.laws.images_read_at_most.Goals as goal

pub returns : goal.returns
returns c = images.images_read_at_most
