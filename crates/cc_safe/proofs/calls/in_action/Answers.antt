-- The parts of an action are checked: what is written to, and what is assigned.
use Rattle.std.proofs.Common.{◌<◌, ℕ, List, ap, sym, subst}
use Rattle.cc_ast.specs.Erase.{action_tree, expression_tree}
use Rattle.cc_ast.specs.declared.ast.Expression.{Expression}
use Rattle.cc_depth.specs.Cycles.{InExpression, InAction}
use Rattle.cc_safe.specs.internal.Ranks.{rank_by}
use Rattle.cc_safe.proofs.calls.in_action.Goals as goal

pub returns-else-not-in_target : goal.returns-else-not-in_target
returns-else-not-in_target c =
    let Is = λ (g : List ℕ). rank_by c.args.layout.now c.args.table.now g < c.args.limit in
    λ is. subst (InAction Is) (sym (ap action_tree c.in-Assign.is))
    (c.in_target.ensures c.if-not-in_target.false, subst (λ (e : Expression). InExpression Is (expression_tree e)) c.deref.ensures (c.in_expression.ensures is))
