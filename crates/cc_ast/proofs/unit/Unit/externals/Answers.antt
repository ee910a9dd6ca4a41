use Rattle.std.proofs.Common.{rules}
use Rattle.cc_ast.proofs.unit.Unit.externals.Goals as goal

pub returns-clause-tree : goal.returns-clause-tree
returns-clause-tree c = search rules
