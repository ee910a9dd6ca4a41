-- The trees of calls and blocks, whose parts the code keeps in rows.
use Rattle.std.proofs.Common.{◌≡◌, refl, ap, rules}
use Rattle.cc_ast.specs.Tree as tree
use Rattle.cc_ast.specs.Erase.{name_tree, expression_tree, expressions_tree, statement_tree, statements_tree, statements_of}
use Rattle.cc_ast.specs.internal.Arguments.{expressions_of}
use Rattle.cc_ast.specs.declared.ast.Expression as expression
use Rattle.cc_ast.specs.declared.ast.Expression.{Row_of-Expression, end_of-Expression, more_of-Expression, items-the_row-Expression}
use Rattle.cc_ast.specs.declared.ast.Statement as statement
use Rattle.cc_ast.specs.declared.ast.Statement.{Row_of-Statement, end_of-Statement, more_of-Statement, items-the_row-Statement}

expressions_tree-row : (n : _) (row : Row_of-Expression n) → expressions_tree row ≡ expressions_of (items-the_row-Expression n row)
expressions_tree-row n end_of-Expression = refl
expressions_tree-row n (more_of-Expression e rest) = ap (tree.more (expression_tree e)) (expressions_tree-row _ rest)

pub expression_tree-call : (f : _) (all : _) → expression_tree (expression.Call f all) ≡ tree.Call (name_tree f) (expressions_of all.items)
expression_tree-call f all = search (rules, expression.the_lemmas, expressions_tree-row)

statements_tree-row : (n : _) (row : Row_of-Statement n) → statements_tree row ≡ statements_of (items-the_row-Statement n row)
statements_tree-row n end_of-Statement = refl
statements_tree-row n (more_of-Statement s rest) = ap (tree.next (statement_tree s)) (statements_tree-row _ rest)

pub statement_tree-block : (all : _) → statement_tree (statement.Block all) ≡ tree.Block (statements_of all.items)
statement_tree-block all = search (rules, statement.the_lemmas, statements_tree-row)
