-- For each bound, the bound to reach is the same one.
use Rattle.cc_simulation.proofs.Behaving.{follows_refl}
use Rattle.cc_simulation.proofs.follows_itself.Goals as goal

pub returns : goal.returns
returns g c = λ a. follows_refl a
