use Rattle.std.proofs.Common.{rules}
use Rattle.cc_syntax.proofs.Views.{statements_of-push}
use Rattle.cc_syntax.proofs.parser.settle.add_statement.Goals as goal

pub returns : goal.returns
returns c = search (rules, statements_of-push)
