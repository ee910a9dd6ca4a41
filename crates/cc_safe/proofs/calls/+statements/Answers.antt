-- The parts of a statement are checked one by one.
use Rattle.std.proofs.Common.{◌<◌, ℕ, List, ◌∙◌, ap, sym, subst}
use Rattle.cc_types.proofs.Items.{drop-item}
use Rattle.cc_types.proofs.Trees.{statement_tree-block, statement_tree-if, statement_tree-if_else, statement_tree-while, statement_tree-do_while, statement_tree-for}
use Rattle.cc_ast.specs.Erase.{beginning_tree, expression_tree, statement_tree, statements_of}
use Rattle.cc_ast.specs.declared.ast.Beginning.{Beginning}
use Rattle.cc_ast.specs.declared.ast.Expression.{Expression}
use Rattle.cc_ast.specs.declared.ast.Statement.{Statement}
use Rattle.cc_depth.specs.Cycles.{InExpression, InBeginning, InStatement, InStatements}
use Rattle.cc_safe.specs.internal.Ranks.{rank_by}
use Rattle.cc_safe.proofs.calls.+statements.Goals as goal

pub in_statement-returns-in-Block : goal.in_statement-returns-in-Block
in_statement-returns-in-Block t c =
    let Is = λ (g : List ℕ). rank_by c.args.layout.now c.args.table.now g < c.args.limit in
    λ is. subst (InStatement Is) (sym (ap statement_tree c.in-Block.is ∙ statement_tree-block c.in-Block.all))
    (subst (λ (l : List Statement). InStatements Is (statements_of l)) c.as_slice.ensures.value (c.in_statements.ensures is))

pub in_statement-returns-else-not-in_expression : goal.in_statement-returns-else-not-in_expression
in_statement-returns-else-not-in_expression t c =
    let Is = λ (g : List ℕ). rank_by c.args.layout.now c.args.table.now g < c.args.limit in
    let So = λ (e : Expression). InExpression Is (expression_tree e) in
    let Does = λ (s : Statement). InStatement Is (statement_tree s) in
    λ is. subst (InStatement Is) (sym (ap statement_tree c.in-If.is ∙ statement_tree-if c.in-If.condition c.in-If.held))
    (subst So c.deref.ensures (c.in_expression.ensures c.if-not-in_expression.false), subst Does c.deref-in-If.ensures (c.in_statement.ensures is))

pub in_statement-returns-else-not-in_statement : goal.in_statement-returns-else-not-in_statement
in_statement-returns-else-not-in_statement t c =
    let Is = λ (g : List ℕ). rank_by c.args.layout.now c.args.table.now g < c.args.limit in
    let So = λ (e : Expression). InExpression Is (expression_tree e) in
    let Does = λ (s : Statement). InStatement Is (statement_tree s) in
    λ is. subst (InStatement Is) (sym (ap statement_tree c.in-IfElse.is ∙ statement_tree-if_else c.in-IfElse.condition c.in-IfElse.held c.in-IfElse.other)) (
      subst So c.deref-in-IfElse.ensures (c.in_expression-in-IfElse.ensures c.if-not-in_expression-2.false),
      subst Does c.deref-in-IfElse-2.ensures (c.in_statement-in-IfElse.ensures c.if-not-in_statement.false),
      subst Does c.deref-in-IfElse-3.ensures (c.in_statement-in-IfElse-2.ensures is),
    )

pub in_statement-returns-else-not-in_expression-3 : goal.in_statement-returns-else-not-in_expression-3
in_statement-returns-else-not-in_expression-3 t c =
    let Is = λ (g : List ℕ). rank_by c.args.layout.now c.args.table.now g < c.args.limit in
    let So = λ (e : Expression). InExpression Is (expression_tree e) in
    let Does = λ (s : Statement). InStatement Is (statement_tree s) in
    λ is. subst (InStatement Is) (sym (ap statement_tree c.in-While.is ∙ statement_tree-while c.in-While.condition c.in-While.body))
    (subst So c.deref-in-While.ensures (c.in_expression-in-While.ensures c.if-not-in_expression-3.false), subst Does c.deref-in-While-2.ensures (c.in_statement-in-While.ensures is))

pub in_statement-returns-else-not-in_statement-2 : goal.in_statement-returns-else-not-in_statement-2
in_statement-returns-else-not-in_statement-2 t c =
    let Is = λ (g : List ℕ). rank_by c.args.layout.now c.args.table.now g < c.args.limit in
    let So = λ (e : Expression). InExpression Is (expression_tree e) in
    let Does = λ (s : Statement). InStatement Is (statement_tree s) in
    λ is. subst (InStatement Is) (sym (ap statement_tree c.in-DoWhile.is ∙ statement_tree-do_while c.in-DoWhile.body c.in-DoWhile.condition))
    (subst Does c.deref-in-DoWhile.ensures (c.in_statement-in-DoWhile.ensures c.if-not-in_statement-2.false), subst So c.deref-in-DoWhile-2.ensures (c.in_expression-in-DoWhile.ensures is))

pub in_statement-returns-else-not-in_optional_action : goal.in_statement-returns-else-not-in_optional_action
in_statement-returns-else-not-in_optional_action t c =
    let Is = λ (g : List ℕ). rank_by c.args.layout.now c.args.table.now g < c.args.limit in
    let Does = λ (s : Statement). InStatement Is (statement_tree s) in
    λ is. subst (InStatement Is) (sym (ap statement_tree c.in-For.is ∙ statement_tree-for c.in-For.first c.in-For.condition c.in-For.behind c.in-For.body)) (
      subst (λ (b : Beginning). InBeginning Is (beginning_tree b)) c.deref-in-For.ensures (c.in_beginning.ensures c.if-not-in_beginning.false),
      c.in_optional-in-For.ensures c.if-not-in_optional.false,
      c.in_optional_action-in-For.ensures c.if-not-in_optional_action.false,
      subst Does c.deref-in-For-2.ensures (c.in_statement-in-For.ensures is),
    )

pub in_statements-loop-s-preserved : goal.in_statements-loop-s-preserved
in_statements-loop-s-preserved t c =
    let Is = λ (g : List ℕ). rank_by c.args.layout.now c.args.table.now g < c.args.limit in
    let left = drop-item c.args.all.now c.loop-s.s-index c.s-item.result c.loop-s-test.true c.s-item.is in
    λ h. c.loop-s.invariant (subst (λ (l : List Statement). InStatements Is (statements_of l)) (sym left) (c.in_statement.ensures c.if-not-in_statement.false, h))
