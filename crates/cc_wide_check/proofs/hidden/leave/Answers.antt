use Rattle.cc_ast.specs.Tree as tree
use Rattle.cc_ast.specs.scalar.Scalar.TheVariants.{Unsigned}
use Rattle.cc_wide.specs.Lowering.{sets}
use Rattle.cc_wide_check.proofs.Reading.{fewer-than_two, more-than_two}
use Rattle.cc_wide_check.proofs.hidden.leave.Goals as goal

pub returns-in_default : goal.returns-in_default
returns-in_default c = fewer-than_two c.args.all.now (sets c.args.local (tree.Number Unsigned 0)) (tree.Break 0) c.in_default.len_below

pub returns-in_default-2 : goal.returns-in_default-2
returns-in_default-2 c = more-than_two c.args.all.now (sets c.args.local (tree.Number Unsigned 0)) (tree.Break 0) c.in_default.len_at_least
