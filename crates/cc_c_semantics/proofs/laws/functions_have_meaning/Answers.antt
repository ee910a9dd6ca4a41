use Rattle.cc_c_semantics.proofs.Named.{typed_units_have_meaning}
use Rattle.cc_c_semantics.proofs.laws.functions_have_meaning.Goals as goal

pub returns : goal.returns
returns c = typed_units_have_meaning
