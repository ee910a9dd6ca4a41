-- The trees of statements with parts in boxes, and the test for a switch of such parts.
use Rattle.std.proofs.Common.{◌≡◌, Bool, ap, sym, ◌∙◌}
use Rattle.cc_types.proofs.Trees.{statement_tree-block, statement_tree-while}
use Rattle.cc_ast.specs.Erase.{expression_tree, statement_tree, statements_of}
use Rattle.cc_ast.specs.Tree as tree
use Rattle.cc_ast.specs.declared.ast.Expression.{Expression}
use Rattle.cc_ast.specs.declared.ast.Statement as statement
use Rattle.cc_ast.specs.declared.ast.Statement.{Statement}
use Rattle.cc_wide_check.specs.internal.Switches.{is_switch}

pub block-tree : (s : Statement) (all : _) → s ≡ statement.Block all → statement_tree s ≡ tree.Block (statements_of all.items)
block-tree s all e = ap statement_tree e ∙ statement_tree-block all

pub while-tree : (s : Statement) (c : _) (b : _) → s ≡ statement.While c b → statement_tree s ≡ tree.While (expression_tree c.value) (statement_tree b.value)
while-tree s c b e = ap statement_tree e ∙ statement_tree-while c b

-- the test was made of the same parts
pub tested : (c d : Expression) (s t : Statement) (r b : Bool) → d ≡ c → t ≡ s → r ≡ is_switch (expression_tree d) (statement_tree t) → r ≡ b
    → is_switch (expression_tree c) (statement_tree s) ≡ b
tested c d s t r b p q e f =
    sym (e ∙ ap (λ x. is_switch (expression_tree x) (statement_tree t)) p ∙ ap (λ y. is_switch (expression_tree c) (statement_tree y)) q) ∙ f
