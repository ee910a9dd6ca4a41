-- First the array is checked, then its index.
use Rattle.std.proofs.Common.{[], ap, sym, ◌∙◌}
use Rattle.cc_ast.specs.Erase.{name_tree, target_tree, expression_tree}
use Rattle.cc_ast.specs.Tree.{AtElement}
use Rattle.cc_types.specs.Rules.{array_errors, value_errors, target_errors, called_in, called_in_target}
use Rattle.cc_types.specs.Scope.{found, in_scope}
use Rattle.cc_typing.proofs.Parts.{two}
use Rattle.cc_typing.proofs.expressions.target.Goals as goal

pub returns-in-Element : goal.returns-in-Element
returns-in-Element c =
    let bs = in_scope c.args.scope.now in
    let x = c.in-Element.name in
    let index = expression_tree c.deref.result.now in
    two c.args.findings.now c.array.new.findings c.value.new.findings (array_errors (found bs x.bytes.items) x.at) (value_errors bs index) (target_errors bs (target_tree c.args.target.now))
    [] (called_in index) (called_in_target (target_tree c.args.target.now)) c.array.ensures c.value.ensures
    (ap (λ a. target_errors bs (target_tree a)) c.in-Element.is ∙ ap (λ e. target_errors bs (AtElement (name_tree x) (expression_tree e))) (sym c.deref.ensures))
    (ap (λ a. called_in_target (target_tree a)) c.in-Element.is ∙ ap (λ e. called_in_target (AtElement (name_tree x) (expression_tree e))) (sym c.deref.ensures))
