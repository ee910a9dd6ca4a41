-- A call's arguments are tested one by one.
use Rattle.std.proofs.Common.{◌≡◌, true, ◌&&◌, ap, sym, ◌∙◌}
use Rattle.cc_types.proofs.Trees.{expression_tree-call}
use Rattle.cc_ast.specs.Erase.{name_tree, expression_tree}
use Rattle.cc_ast.specs.internal.Arguments.{expressions_of}
use Rattle.cc_wide_check.specs.internal.Lowers.{own_name, own_expression, own_expressions}
use Rattle.cc_wide_check.proofs.own.+expressions.Goals as goal

pub own_expression-returns-then-own_name-2 : goal.own_expression-returns-then-own_name-2
own_expression-returns-then-own_name-2 t c =
    let named : own_name (name_tree c.in-Call.name) ≡ true = sym c.own_name-in-Call.ensures ∙ c.if-own_name-2.true in
    c.own_expressions.ensures ∙ ap (λ l. own_expressions (expressions_of l)) c.as_slice.ensures.value
    ∙ sym (ap (λ b. b && own_expressions (expressions_of c.in-Call.all.items)) named)
    ∙ sym (ap own_expression (ap expression_tree c.in-Call.is ∙ expression_tree-call c.in-Call.name c.in-Call.all))
