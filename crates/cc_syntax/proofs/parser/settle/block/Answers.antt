use Rattle.std.proofs.Common.{rules}
use Rattle.cc_ast.specs.declared.ast.Statement.{the_lemmas}
use Rattle.cc_syntax.proofs.Rows.{statements_tree-row}
use Rattle.cc_syntax.proofs.parser.settle.block.Goals as goal

pub returns : goal.returns
returns c = search (rules, the_lemmas, statements_tree-row)
