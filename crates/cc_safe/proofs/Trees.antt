-- The trees of expressions with two or three parts.
use Rattle.std.proofs.Common.{◌≡◌, rules}
use Rattle.cc_ast.specs.Tree as tree
use Rattle.cc_ast.specs.Erase.{expression_tree}
use Rattle.cc_ast.specs.declared.ast.Expression as expression

pub expression_tree-binary : (op : _) (a : _) (b : _) → expression_tree (expression.Binary op a b) ≡ tree.Binary op (expression_tree a.value) (expression_tree b.value)
expression_tree-binary op a b = search (rules, expression.the_lemmas)

pub expression_tree-conditional : (e : _) (a : _) (b : _) → expression_tree (expression.Conditional e a b) ≡ tree.Conditional (expression_tree e.value) (expression_tree a.value) (expression_tree b.value)
expression_tree-conditional e a b = search (rules, expression.the_lemmas)
