-- First the expression is checked, then whether it has a constant value.
use Rattle.std.proofs.Common.{◌≡◌, ◌∙◌, [], ap, sym}
use Rattle.std.specs.Prelude.{not, is_some}
use Rattle.cc_ast.specs.Erase.{constant_tree, expression_tree}
use Rattle.cc_typing.specs.internal.Findings.{after}
use Rattle.cc_types.specs.Rules.{broken_if, value_errors, called_in}
use Rattle.cc_types.specs.Scope.{in_scope}
use Rattle.cc_types.specs.Types.{constant_word}
use Rattle.cc_types.specs.declared.rule.Rule.TheVariants.{WrongKind}
use Rattle.cc_typing.proofs.Parts.{after_noted}
use Rattle.cc_typing.proofs.FileScopes.{not_not}
use Rattle.cc_typing.proofs.externals.constant.Goals as goal

pub returns : goal.returns
returns c =
    let f = c.args.findings.now in
    let bs = in_scope c.args.scope.now in
    let k = constant_tree c.args.tree.now in
    let wrong : c.is_none.result ≡ not (is_some (constant_word k)) = not_not c.is_none.result ∙ ap not (sym c.is_none.ensures) ∙ ap (λ w. not (is_some w)) c.constant_word.ensures in
    c.note_if.ensures ∙ ap (λ b. after c.value.new.findings (broken_if b WrongKind k.at) []) wrong
    ∙ ap (λ g. after g (broken_if (not (is_some (constant_word k))) WrongKind k.at) [])
    (c.value.ensures ∙ ap (λ e. after f (value_errors bs (expression_tree e)) (called_in (expression_tree e))) c.deref.ensures)
    ∙ after_noted f (value_errors bs k.expr) (broken_if (not (is_some (constant_word k))) WrongKind k.at) (called_in k.expr)
