use Rattle.std.proofs.Common.{rules}
use Rattle.cc_ast.proofs.unit.Unit.text.Goals as goal

pub returns : goal.returns
returns c = search rules
