use Rattle.cc_simulation.proofs.Words as words
use Rattle.cc_simulation.proofs.follows_in_words.Goals as goal

pub returns : goal.returns
returns g c = λ a z. words.follows_in_words a z
