use Rattle.cc_ltl.proofs.Layer.{is_layer}
use Rattle.cc_ltl.proofs.laws.ltl_is_a_layer.Goals as goal

pub returns : goal.returns
returns c = λ arity l. is_layer arity l
