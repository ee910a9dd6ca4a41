-- The statements of a block, and the arguments of a call, have the same tree as a row and as a list.
use Rattle.std.proofs.Common.{◌≡◌, refl, ap}
use Rattle.cc_ast.specs.Tree.{next, more}
use Rattle.cc_ast.specs.Erase.{statement_tree, statements_tree, statements_of, expression_tree, expressions_tree}
use Rattle.cc_ast.specs.internal.Arguments.{expressions_of}
use Rattle.cc_ast.specs.declared.ast.Statement.{Row_of-Statement, end_of-Statement, more_of-Statement, items-the_row-Statement}
use Rattle.cc_ast.specs.declared.ast.Expression.{Row_of-Expression, end_of-Expression, more_of-Expression, items-the_row-Expression}

pub statements_tree-row : (n : _) (row : Row_of-Statement n) → statements_tree row ≡ statements_of (items-the_row-Statement n row)
statements_tree-row n end_of-Statement = refl
statements_tree-row n (more_of-Statement s rest) = ap (λ r. next (statement_tree s) r) (statements_tree-row _ rest)

pub expressions_tree-row : (n : _) (row : Row_of-Expression n) → expressions_tree row ≡ expressions_of (items-the_row-Expression n row)
expressions_tree-row n end_of-Expression = refl
expressions_tree-row n (more_of-Expression e rest) = ap (λ r. more (expression_tree e) r) (expressions_tree-row _ rest)
