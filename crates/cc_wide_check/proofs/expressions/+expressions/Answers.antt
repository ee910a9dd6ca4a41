-- A call's arguments are compared one by one.
use Rattle.std.proofs.Common.{◌≡◌, true, ◌&&◌, refl, ap, sym, ◌∙◌, length, arith}
use Rattle.cc_types.proofs.Trees.{expression_tree-call}
use Rattle.cc_ast.specs.Erase.{name_tree, expression_tree}
use Rattle.cc_ast.specs.Tree as tree
use Rattle.cc_ast.specs.internal.Arguments.{expressions_of}
use Rattle.cc_ast.specs.declared.ast.Expression.{Expression}
use Rattle.cc_wide.specs.Places.{name_only, bare, all_bare}
use Rattle.cc_wide_check.specs.internal.Equal.{equal_name, equal_expression, equal_expressions}
use Rattle.cc_wide_check.proofs.Lists.{pairs-differ}
use Rattle.cc_wide_check.proofs.expressions.+expressions.Goals as goal

pub same_expression-returns-then-same_name-2 : goal.same_expression-returns-then-same_name-2
same_expression-returns-then-same_name-2 t c =
    let x = c.in-Call-Call.x in
    let y = c.in-Call-Call.y in
    let es = c.in-Call-Call.es in
    let fs = c.in-Call-Call.fs in
    let one = ap (λ e. bare (expression_tree e)) c.in-Call-Call.is-0 ∙ ap bare (expression_tree-call x es) in
    let other = sym c.inner-other.ensures.same ∙ ap (λ e. bare (expression_tree e)) c.in-Call-Call.is-1 ∙ ap bare (expression_tree-call y fs) in
    let named : equal_name (name_only (name_tree x)) (name_only (name_tree y)) ≡ true = sym c.same_name-in-Call-Call.ensures ∙ c.if-same_name-2.true in
    c.same_expressions.ensures
    ∙ ap (λ l. equal_expressions (all_bare (expressions_of l)) (all_bare (expressions_of c.as_slice-then-same_name-2.result.now))) c.as_slice.ensures.value
    ∙ ap (λ l. equal_expressions (all_bare (expressions_of es.items)) (all_bare (expressions_of l))) c.as_slice-then-same_name-2.ensures.value
    ∙ sym (ap (λ b. b && equal_expressions (all_bare (expressions_of es.items)) (all_bare (expressions_of fs.items))) named)
    ∙ sym (ap (λ e. equal_expression e (bare (expression_tree c.args.other.now))) one ∙ ap (equal_expression (bare (tree.Call (name_tree x) (expressions_of es.items)))) other)

pub same_expressions-returns-then-one-other : goal.same_expressions-returns-then-one-other
same_expressions-returns-then-one-other t c =
    pairs-differ Expression Expression (λ x y. equal_expression (bare (expression_tree x)) (bare (expression_tree y)))
    (λ k l. equal_expressions (all_bare (expressions_of k)) (all_bare (expressions_of l)))
    (record { none = refl; left = λ x xs. refl; right = λ y ys. refl; more = λ x xs y ys. refl }) c.args.one.now c.args.other.now
    (λ (e : length c.args.one.now ≡ length c.args.other.now). omega arith)
