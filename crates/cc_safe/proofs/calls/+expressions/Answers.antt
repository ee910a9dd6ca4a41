-- The parts of an expression are checked one by one.
use Rattle.std.proofs.Common.{◌<◌, ℕ, List, ◌∙◌, ap, sym, subst, arith}
use Rattle.cc_types.proofs.Items.{drop-item}
use Rattle.cc_types.proofs.Trees.{expression_tree-call}
use Rattle.cc_ast.specs.Erase.{expression_tree}
use Rattle.cc_ast.specs.internal.Arguments.{expressions_of}
use Rattle.cc_ast.specs.declared.ast.Expression.{Expression}
use Rattle.cc_depth.specs.Cycles.{InExpression, InExpressions}
use Rattle.cc_safe.specs.internal.Ranks.{rank_by}
use Rattle.cc_safe.proofs.Trees.{expression_tree-binary, expression_tree-conditional}
use Rattle.cc_safe.proofs.calls.+expressions.Goals as goal

pub in_expression-returns-else-rank-limit : goal.in_expression-returns-else-rank-limit
in_expression-returns-else-rank-limit t c =
    let Is = λ (g : List ℕ). rank_by c.args.layout.now c.args.table.now g < c.args.limit in
    let low : c.rank_of-rank.result < c.args.limit = omega (arith, c.if-rank-limit.false) in
    let named = subst Is c.as_slice.ensures.value (subst (λ (n : ℕ). n < c.args.limit) c.rank_of-rank.ensures low) in
    λ is. subst (InExpression Is) (sym (ap expression_tree c.in-Call.is ∙ expression_tree-call c.in-Call.name c.in-Call.all))
    (named, subst (λ (l : List Expression). InExpressions Is (expressions_of l)) c.as_slice-in-Call.ensures.value (c.in_expressions.ensures is))

pub in_expression-returns-else-not-in_expression : goal.in_expression-returns-else-not-in_expression
in_expression-returns-else-not-in_expression t c =
    let Is = λ (g : List ℕ). rank_by c.args.layout.now c.args.table.now g < c.args.limit in
    let So = λ (e : Expression). InExpression Is (expression_tree e) in
    λ is. subst (InExpression Is) (sym (ap expression_tree c.in-Binary.is ∙ expression_tree-binary c.in-Binary.field-0 c.in-Binary.left c.in-Binary.right))
    (subst So c.deref-in-Binary.ensures (c.in_expression-in-Binary.ensures c.if-not-in_expression.false), subst So c.deref-in-Binary-2.ensures (c.in_expression-in-Binary-2.ensures is))

pub in_expression-returns-else-not-in_expression-3 : goal.in_expression-returns-else-not-in_expression-3
in_expression-returns-else-not-in_expression-3 t c =
    let Is = λ (g : List ℕ). rank_by c.args.layout.now c.args.table.now g < c.args.limit in
    let So = λ (e : Expression). InExpression Is (expression_tree e) in
    λ is. subst (InExpression Is) (sym (ap expression_tree c.in-Conditional.is ∙ expression_tree-conditional c.in-Conditional.condition c.in-Conditional.held c.in-Conditional.other)) (
      subst So c.deref-in-Conditional.ensures (c.in_expression-in-Conditional.ensures c.if-not-in_expression-2.false),
      subst So c.deref-in-Conditional-2.ensures (c.in_expression-in-Conditional-2.ensures c.if-not-in_expression-3.false),
      subst So c.deref-in-Conditional-3.ensures (c.in_expression-in-Conditional-3.ensures is),
    )

pub in_expressions-loop-e-preserved : goal.in_expressions-loop-e-preserved
in_expressions-loop-e-preserved t c =
    let Is = λ (g : List ℕ). rank_by c.args.layout.now c.args.table.now g < c.args.limit in
    let left = drop-item c.args.all.now c.loop-e.e-index c.e-item.result c.loop-e-test.true c.e-item.is in
    λ h. c.loop-e.invariant (subst (λ (l : List Expression). InExpressions Is (expressions_of l)) (sym left) (c.in_expression.ensures c.if-not-in_expression.false, h))
