-- Proved by recursion on the shorter cut, with the facts of the meaning at each call.
use Rattle.cc_simulation.specs.Meaning.{call_effect}
use Rattle.cc_simulation.proofs.Cuts.{comparable}
use Rattle.cc_simulation.proofs.Following.{effects_of}
use Rattle.cc_simulation.proofs.cuts_are_comparable.Goals as goal

pub returns : goal.returns
returns g c = λ meaning move output layer opened k l i j start. comparable move output (call_effect meaning opened) (effects_of meaning move output layer opened) k l i j start
