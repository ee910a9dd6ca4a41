use Rattle.std.proofs.Common.{rules}
use Rattle.cc_ast.specs.declared.ast.Expression.{the_lemmas}
use Rattle.cc_syntax.proofs.Rows.{expressions_tree-row}
use Rattle.cc_syntax.proofs.parser.expression.call_of.Goals as goal

pub returns : goal.returns
returns c = search (rules, the_lemmas, expressions_tree-row)
