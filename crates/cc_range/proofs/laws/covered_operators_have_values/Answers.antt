use Rattle.cc_range.proofs.Covered.{covered_has_value}
use Rattle.cc_range.proofs.laws.covered_operators_have_values.Goals as goal

pub returns-clause-values : goal.returns-clause-values
returns-clause-values c = covered_has_value
