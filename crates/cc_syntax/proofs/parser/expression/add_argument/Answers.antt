use Rattle.std.proofs.Common.{rules}
use Rattle.cc_syntax.proofs.Views.{expressions_of-push}
use Rattle.cc_syntax.proofs.parser.expression.add_argument.Goals as goal

pub returns : goal.returns
returns c = search (rules, expressions_of-push)
