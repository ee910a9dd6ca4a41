-- The parts of an expression are checked one after another.
use Rattle.std.proofs.Common.{◌≡◌, ◌∙◌, ◌+◌, ◌++◌, [], ◌∷◌, ap, sym, drop, length, List}
use Rattle.std.proofs.Math.ListN.{drop_of_length-le}
use Rattle.cc_ast.specs.Erase.{name_tree, expression_tree}
use Rattle.cc_ast.specs.internal.Arguments.{expressions_of}
use Rattle.cc_ast.specs.declared.ast.Expression.{Expression}
use Rattle.cc_types.specs.Rules.{array_errors, function_errors, count_of, void_errors, expression_errors, value_errors, argument_errors, called_in, called_in_all}
use Rattle.cc_types.specs.Scope.{found, in_scope}
use Rattle.cc_typing.proofs.Parts.{next, last, two, three, after_noted}
use Rattle.cc_typing.specs.internal.Findings.{after}
use Rattle.cc_types.proofs.Trees.{expression_tree-call, count_of-expressions}
use Rattle.cc_types.proofs.Items.{drop-item}
use Rattle.cc_typing.proofs.expressions.+expressions.Goals as goal

pub arguments-loop-tree-preserved : goal.arguments-loop-tree-preserved
arguments-loop-tree-preserved t c =
    let bs = in_scope c.args.scope.now in
    let left = drop-item c.args.trees.now c.loop-tree.tree-index c.tree-item.result c.loop-tree-test.true c.tree-item.is in
    let tree = expression_tree c.tree-item.result in
    let rest = expressions_of (drop (c.loop-tree.tree-index + 1) c.args.trees.now) in
    next c.loop-tree.findings c.value.new.findings _ (value_errors bs tree) (argument_errors bs rest) _ (called_in tree) (called_in_all rest) _ c.loop-tree.invariant
    (ap (λ l. argument_errors bs (expressions_of l)) left) (ap (λ l. called_in_all (expressions_of l)) left) c.value.ensures

pub arguments-returns : goal.arguments-returns
arguments-returns t c =
    let bs = in_scope c.args.scope.now in
    let nothing : drop c.loop-tree.tree-index c.args.trees.now ≡ [] = drop_of_length-le c.args.trees.now c.loop-tree-test.false in
    last c.loop-tree.findings _ _ _ c.loop-tree.invariant (ap (λ l. argument_errors bs (expressions_of l)) nothing) (ap (λ l. called_in_all (expressions_of l)) nothing)

pub expression-returns-in-Element : goal.expression-returns-in-Element
expression-returns-in-Element t c =
    let bs = in_scope c.args.scope.now in
    let x = c.in-Element.name in
    let index = expression_tree c.deref.result.now in
    let same = sym c.deref.ensures in
    two c.args.findings.now c.array.new.findings c.value.new.findings (array_errors (found bs x.bytes.items) x.at) (value_errors bs index) (expression_errors bs (expression_tree c.args.tree.now))
    [] (called_in index) (called_in (expression_tree c.args.tree.now)) c.array.ensures c.value.ensures
    (ap (λ (e : Expression). expression_errors bs (expression_tree e)) c.in-Element.is ∙ ap (λ (e : Expression). array_errors (found bs x.bytes.items) x.at ++ value_errors bs (expression_tree e)) same)
    (ap (λ (e : Expression). called_in (expression_tree e)) c.in-Element.is ∙ ap (λ (e : Expression). called_in (expression_tree e)) same)

pub expression-returns-in-Call : goal.expression-returns-in-Call
expression-returns-in-Call t c =
    let bs = in_scope c.args.scope.now in
    let f = name_tree c.in-Call.name in
    let all = c.as_slice-all.result.now in
    let is = ap expression_tree c.in-Call.is ∙ expression_tree-call c.in-Call.name c.in-Call.all in
    let same = sym c.as_slice-all.ensures.value in
    let function = found bs f.text in
    three c.args.findings.now c.note_call.new.self c.function.new.findings c.arguments.new.findings
    [] (function_errors function (length all) f.at) (argument_errors bs (expressions_of all)) (expression_errors bs (expression_tree c.args.tree.now))
    (f ∷ []) [] (called_in_all (expressions_of all)) (called_in (expression_tree c.args.tree.now))
    c.note_call.ensures c.function.ensures c.arguments.ensures
    (ap (expression_errors bs) is ∙ ap (λ (l : List Expression). function_errors function (count_of (expressions_of l)) f.at ++ argument_errors bs (expressions_of l)) same
    ∙ ap (λ n. function_errors function n f.at ++ argument_errors bs (expressions_of all)) (count_of-expressions all))
    (ap called_in is ∙ ap (λ (l : List Expression). f ∷ called_in_all (expressions_of l)) same)

pub expression-returns-in-Binary : goal.expression-returns-in-Binary
expression-returns-in-Binary t c =
    let bs = in_scope c.args.scope.now in
    let a = expression_tree c.deref-in-Binary.result.now in
    let b = expression_tree c.deref-in-Binary-2.result.now in
    let left = sym c.deref-in-Binary.ensures in
    let right = sym c.deref-in-Binary-2.ensures in
    two c.args.findings.now c.value-in-Binary.new.findings c.value-in-Binary-2.new.findings (value_errors bs a) (value_errors bs b) (expression_errors bs (expression_tree c.args.tree.now))
    (called_in a) (called_in b) (called_in (expression_tree c.args.tree.now)) c.value-in-Binary.ensures c.value-in-Binary-2.ensures
    (ap (λ (e : Expression). expression_errors bs (expression_tree e)) c.in-Binary.is
    ∙ ap (λ (e : Expression). value_errors bs (expression_tree e) ++ value_errors bs (expression_tree c.in-Binary.right.value)) left
    ∙ ap (λ (e : Expression). value_errors bs a ++ value_errors bs (expression_tree e)) right)
    (ap (λ (e : Expression). called_in (expression_tree e)) c.in-Binary.is
    ∙ ap (λ (e : Expression). called_in (expression_tree e) ++ called_in (expression_tree c.in-Binary.right.value)) left
    ∙ ap (λ (e : Expression). called_in a ++ called_in (expression_tree e)) right)

pub expression-returns-in-Conditional : goal.expression-returns-in-Conditional
expression-returns-in-Conditional t c =
    let bs = in_scope c.args.scope.now in
    let p = expression_tree c.deref-in-Conditional.result.now in
    let a = expression_tree c.deref-in-Conditional-2.result.now in
    let b = expression_tree c.deref-in-Conditional-3.result.now in
    let h = c.in-Conditional.held.value in
    let o = c.in-Conditional.other.value in
    let first = sym c.deref-in-Conditional.ensures in
    let second = sym c.deref-in-Conditional-2.ensures in
    let third = sym c.deref-in-Conditional-3.ensures in
    three c.args.findings.now c.value-in-Conditional.new.findings c.value-in-Conditional-2.new.findings c.value-in-Conditional-3.new.findings
    (value_errors bs p) (value_errors bs a) (value_errors bs b) (expression_errors bs (expression_tree c.args.tree.now))
    (called_in p) (called_in a) (called_in b) (called_in (expression_tree c.args.tree.now))
    c.value-in-Conditional.ensures c.value-in-Conditional-2.ensures c.value-in-Conditional-3.ensures
    (ap (λ (e : Expression). expression_errors bs (expression_tree e)) c.in-Conditional.is
    ∙ ap (λ (e : Expression). value_errors bs (expression_tree e) ++ (value_errors bs (expression_tree h) ++ value_errors bs (expression_tree o))) first
    ∙ ap (λ (e : Expression). value_errors bs p ++ (value_errors bs (expression_tree e) ++ value_errors bs (expression_tree o))) second
    ∙ ap (λ (e : Expression). value_errors bs p ++ (value_errors bs a ++ value_errors bs (expression_tree e))) third)
    (ap (λ (e : Expression). called_in (expression_tree e)) c.in-Conditional.is
    ∙ ap (λ (e : Expression). called_in (expression_tree e) ++ (called_in (expression_tree h) ++ called_in (expression_tree o))) first
    ∙ ap (λ (e : Expression). called_in p ++ (called_in (expression_tree e) ++ called_in (expression_tree o))) second
    ∙ ap (λ (e : Expression). called_in p ++ (called_in a ++ called_in (expression_tree e))) third)

pub value-returns : goal.value-returns
value-returns t c =
    let bs = in_scope c.args.scope.now in
    let e = expression_tree c.args.tree.now in
    c.void_call.ensures ∙ ap (λ f. after f (void_errors bs e) []) c.expression.ensures ∙ after_noted c.args.findings.now (expression_errors bs e) (void_errors bs e) (called_in e)
