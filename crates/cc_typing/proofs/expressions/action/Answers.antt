-- First the target is checked, then the right side.
use Rattle.std.proofs.Common.{ap, sym, ◌∙◌}
use Rattle.cc_ast.specs.Erase.{action_tree, target_tree, expression_tree}
use Rattle.cc_ast.specs.Tree.{Assign}
use Rattle.cc_types.specs.Rules.{target_errors, value_errors, action_errors, called_in, called_in_target, called_in_action}
use Rattle.cc_types.specs.Scope.{in_scope}
use Rattle.cc_typing.proofs.Parts.{two}
use Rattle.cc_typing.proofs.expressions.action.Goals as goal

pub returns-in-Assign : goal.returns-in-Assign
returns-in-Assign c =
    let bs = in_scope c.args.scope.now in
    let written = target_tree c.in-Assign.written in
    let right = expression_tree c.deref.result.now in
    two c.args.findings.now c.target.new.findings c.value.new.findings (target_errors bs written) (value_errors bs right) (action_errors bs (action_tree c.args.action.now))
    (called_in_target written) (called_in right) (called_in_action (action_tree c.args.action.now)) c.target.ensures c.value.ensures
    (ap (λ a. action_errors bs (action_tree a)) c.in-Assign.is ∙ ap (λ e. action_errors bs (Assign c.in-Assign.field-0 written (expression_tree e))) (sym c.deref.ensures))
    (ap (λ a. called_in_action (action_tree a)) c.in-Assign.is ∙ ap (λ e. called_in_action (Assign c.in-Assign.field-0 written (expression_tree e))) (sym c.deref.ensures))
