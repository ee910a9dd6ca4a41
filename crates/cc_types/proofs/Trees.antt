-- The trees of calls and blocks, whose parts the code keeps in rows.
use Rattle.std.proofs.Common.{◌≡◌, suc, ◌+◌, List, [], ◌∷◌, length, refl, ap, arith, rules}
use Rattle.cc_ast.specs.Tree as tree
use Rattle.cc_ast.specs.Erase.{name_tree, expression_tree, expressions_tree, statement_tree, statements_tree, statements_of, beginning_tree, optional_tree, optional_action}
use Rattle.cc_ast.specs.internal.Arguments.{expressions_of}
use Rattle.cc_ast.specs.declared.ast.Expression as expression
use Rattle.cc_ast.specs.declared.ast.Expression.{Expression, Row_of-Expression, end_of-Expression, more_of-Expression, items-the_row-Expression}
use Rattle.cc_ast.specs.declared.ast.Statement as statement
use Rattle.cc_ast.specs.declared.ast.Statement.{Statement, Row_of-Statement, end_of-Statement, more_of-Statement, items-the_row-Statement}
use Rattle.cc_types.specs.Rules.{count_of}

expressions_tree-row : (n : _) (row : Row_of-Expression n) → expressions_tree row ≡ expressions_of (items-the_row-Expression n row)
expressions_tree-row n end_of-Expression = refl
expressions_tree-row n (more_of-Expression e rest) = ap (tree.more (expression_tree e)) (expressions_tree-row _ rest)

pub expression_tree-call : (f : _) (all : _) → expression_tree (expression.Call f all) ≡ tree.Call (name_tree f) (expressions_of all.items)
expression_tree-call f all = search (rules, expression.the_lemmas, expressions_tree-row)

statements_tree-row : (n : _) (row : Row_of-Statement n) → statements_tree row ≡ statements_of (items-the_row-Statement n row)
statements_tree-row n end_of-Statement = refl
statements_tree-row n (more_of-Statement s rest) = ap (tree.next (statement_tree s)) (statements_tree-row _ rest)

pub statement_tree-block : (all : _) → statement_tree (statement.Block all) ≡ tree.Block (statements_of all.items)
statement_tree-block all = search (rules, statement.the_lemmas, statements_tree-row)

pub count_of-expressions : (es : List Expression) → count_of (expressions_of es) ≡ length es
count_of-expressions [] = refl
count_of-expressions (e ∷ es) = let k : count_of (expressions_of es) ≡ length es = count_of-expressions es in let j : 1 + count_of (expressions_of es) ≡ suc (length es) = omega arith in j

pub statement_tree-if : (c : _) (b : _) → statement_tree (statement.If c b) ≡ tree.If (expression_tree c.value) (statement_tree b.value)
statement_tree-if c b = search (rules, statement.the_lemmas)

pub statement_tree-if_else : (c : _) (b : _) (r : _) → statement_tree (statement.IfElse c b r) ≡ tree.IfElse (expression_tree c.value) (statement_tree b.value) (statement_tree r.value)
statement_tree-if_else c b r = search (rules, statement.the_lemmas)

pub statement_tree-while : (c : _) (b : _) → statement_tree (statement.While c b) ≡ tree.While (expression_tree c.value) (statement_tree b.value)
statement_tree-while c b = search (rules, statement.the_lemmas)

pub statement_tree-do_while : (b : _) (c : _) → statement_tree (statement.DoWhile b c) ≡ tree.DoWhile (statement_tree b.value) (expression_tree c.value)
statement_tree-do_while b c = search (rules, statement.the_lemmas)

pub statement_tree-for : (s : _) (c : _) (a : _) (b : _) → statement_tree (statement.For s c a b) ≡ tree.For (beginning_tree s.value) (optional_tree c) (optional_action a) (statement_tree b.value)
statement_tree-for s c a b = search (rules, statement.the_lemmas)
