-- Arguments one by one; calls, and operators on more than one operand.
use Rattle.std.proofs.Common.{◌≡◌, ◌&&◌, true, suc, ◌+◌, ◌++◌, List, [], ◌∷◌, ◌∙◌, ap, sym, drop, arith}
use Rattle.std.proofs.lemmas.List.{append_assoc}
use Rattle.cc_ast.specs.Tree as syntax
use Rattle.cc_ast.specs.Erase.{name_tree, expression_tree}
use Rattle.cc_ast.specs.internal.Arguments.{expressions_of}
use Rattle.cc_ast.specs.declared.ast.Expression as tree
use Rattle.cc_layout.specs.Layout as layout
use Rattle.cc_layout.specs.declared.layout.Callee.{Callee}
use Rattle.cc_cminor_language.specs.Cminor as cminor
use Rattle.cc_cminor_language.specs.Code as code
use Rattle.cc_cminor_language.specs.Statements as codes
use Rattle.cc_cminor_language.specs.Code.{expression_of, statement_of, in_sequence}
use Rattle.cc_cminor_language.specs.declared.code.Expression.{Expression}
use Rattle.cc_cminor_language.specs.declared.code.Statement.{Statement}
use Rattle.cc_cminor.specs.internal.Lowering.{count, is_plain, are_plain, plain, all_plain, put_expr, put_all, locals_from, invoked}
use Rattle.cc_cminor.specs.internal.Taken.{Taken, taken_of, taken, waiting, put_in}
use Rattle.cc_cminor_language.proofs.Codes.{if_ok, expressions_push, statements_push}
use Rattle.cc_cminor.proofs.Variables.{and_left, and_right}
use Rattle.cc_cminor.proofs.Taking.{drop-item, count-is, put-is, plain-is, binary-value, conditional-value, call-code}
use Rattle.cc_cminor.proofs.Trees.{expression_tree-call}
use Rattle.cc_cminor.proofs.expressions.+values.Goals as goal

pub all_plain-loop-tree-preserved : goal.all_plain-loop-tree-preserved
all_plain-loop-tree-preserved t c =
    let v = c.args.names.now in
    let i = c.loop-tree.tree-index in
    let item = expression_tree c.tree-item.result in
    let left = drop-item c.args.trees.now i c.tree-item.result c.loop-tree-test.true c.tree-item.is in
    let after = expressions_of (drop (i + 1) c.args.trees.now) in
    let rest = all_plain v.layout v after in
    let before = code.expressions_of c.loop-tree.all.items in
    let both : is_plain item && are_plain after ≡ true = ap (λ (l : List tree.Expression). are_plain (expressions_of l)) (sym left) ∙ c.loop-tree.invariant.plain in
    let expression : expression_of c.into_inner.result ≡ plain v.layout v item =
    ap expression_of (c.into_inner.ensures ∙ c.alone.ensures) ∙ ap (λ (u : Taken). u.value) c.in_ok-taken.ensures.value ∙ plain-is v.layout v c.args.k item (and_left (is_plain item) (are_plain after) both) in
    record {
      plain = and_right (is_plain item) (are_plain after) both;
      code = ap (λ (l : List Expression). code.expressions_of l ++ rest) c.in_ok-push.ensures.items
          ∙ ap (λ l. l ++ rest) (expressions_push c.loop-tree.all.items c.into_inner.result)
          ∙ append_assoc before (expression_of c.into_inner.result ∷ []) rest
          ∙ ap (λ e. before ++ (e ∷ rest)) expression
          ∙ sym (ap (λ (l : List tree.Expression). before ++ all_plain v.layout v (expressions_of l)) left)
          ∙ c.loop-tree.invariant.code;
    }

pub put_all-loop-tree-preserved : goal.put_all-loop-tree-preserved
put_all-loop-tree-preserved t c =
    let v = c.args.names.now in
    let i = c.loop-tree.tree-index in
    let j = c.loop-tree.variable in
    let item = expression_tree c.tree-item.result in
    let left = drop-item c.args.trees.now i c.tree-item.result c.loop-tree-test.true c.tree-item.is in
    let after = expressions_of (drop (i + 1) c.args.trees.now) in
    let before = codes.statements_of c.loop-tree.all.items in
    let rest = put_all v.layout v c.in_ok-variable.variable after in
    let statement : statement_of c.into_inner.result ≡ put_expr v.layout v j item = ap statement_of c.into_inner.ensures ∙ c.in_ok-code.ensures in
    let next : c.in_ok-variable.variable ≡ suc j = let e = c.in_ok-variable.ensures in omega arith in
    ap (λ (l : List Statement). codes.statements_of l ++ rest) c.in_ok-push.ensures.items
    ∙ ap (λ l. l ++ rest) (statements_push c.loop-tree.all.items c.into_inner.result)
    ∙ append_assoc before (statement_of c.into_inner.result ∷ []) rest
    ∙ ap (λ s. before ++ (s ∷ rest)) statement
    ∙ ap (λ n. before ++ (put_expr v.layout v j item ∷ put_all v.layout v n after)) next
    ∙ sym (ap (λ (l : List tree.Expression). before ++ put_all v.layout v j (expressions_of l)) left)
    ∙ c.loop-tree.invariant

pub call-returns : goal.call-returns
call-returns t c =
    let v = c.args.names.now in
    let f = name_tree c.args.name.now in
    let k = c.args.k in
    let es = expressions_of c.args.trees.now in
    let callee : c.callee-callee.result ≡ layout.callee v.layout f.text = c.callee-callee.ensures ∙ ap (layout.callee v.layout) c.as_slice.ensures.value in
    let call : statement_of c.in_ok-call.call.value ≡ invoked (layout.callee v.layout f.text) k (locals_from k (count es)) =
    c.in_ok-call.ensures ∙ ap (λ (x : Callee). invoked x k (code.expressions_of c.in_ok-arguments-2.arguments.items)) callee
    ∙ ap (λ us. invoked (layout.callee v.layout f.text) k us) (c.in_ok-arguments-2.ensures ∙ sym (ap (locals_from k) (count-is c.args.trees.now))) in
    if_ok _ _ c.both.result
    (λ s e. e ∙ ap (λ a. cminor.Sequence a (statement_of c.in_ok-call.call.value)) c.in_ok-code.ensures ∙ ap (cminor.Sequence (in_sequence (put_all v.layout v k es))) call
    ∙ sym (call-code v.layout v k f es (sym c.are_plain.ensures ∙ c.if-are_plain.false)))
    c.both.ensures

pub put-returns : goal.put-returns
put-returns t c =
    let v = c.args.names.now in
    let k = c.args.k in
    if_ok _ _ c.put_in.result (λ s e. e ∙ ap (λ (u : Taken). put_in k u.before u.value) c.in_ok-taken.ensures.value ∙ put-is v.layout v k (expression_tree c.args.tree.now)) c.put_in.ensures

pub value-returns-in_ok-code-in-Call-clause-value : goal.value-returns-in_ok-code-in-Call-clause-value
value-returns-in_ok-code-in-Call-clause-value t c =
    let v = c.args.names.now in
    let k = c.args.k in
    let f = name_tree c.in-Call.name in
    let is : expression_tree c.args.tree.now ≡ syntax.Call f (expressions_of c.as_slice-in-Call.result.now) =
    ap expression_tree c.in-Call.is ∙ expression_tree-call c.in-Call.name c.in-Call.trees ∙ ap (λ (l : List tree.Expression). syntax.Call f (expressions_of l)) (sym c.as_slice-in-Call.ensures.value) in
    if_ok _ _ c.waiting.result (λ u e. e ∙ ap (waiting k) c.in_ok-code-in-Call.ensures ∙ sym (ap (taken v.layout v k) is)) c.waiting.ensures.value

pub value-returns-in_ok-right-in-Binary-clause-value : goal.value-returns-in_ok-right-in-Binary-clause-value
value-returns-in_ok-right-in-Binary-clause-value t c =
    let v = c.args.names.now in
    let k = c.args.k in
    let op = c.in-Binary.operator in
    let a = expression_tree c.deref-in-Binary.result.now in
    let b = expression_tree c.deref-in-Binary-2.result.now in
    let x = c.in_ok-left-in-Binary.left in
    let y = c.in_ok-right-in-Binary.right in
    let is : expression_tree c.args.tree.now ≡ syntax.Binary op a b =
    ap expression_tree c.in-Binary.is ∙ ap (λ (e : tree.Expression). syntax.Binary op (expression_tree e) (expression_tree c.in-Binary.right.value)) (sym c.deref-in-Binary.ensures)
    ∙ ap (λ (e : tree.Expression). syntax.Binary op a (expression_tree e)) (sym c.deref-in-Binary-2.ensures) in
    if_ok _ _ c.joined.result
    (λ u e. e ∙ binary-value v.layout v k c.in_ok-right_from-in-Binary.field-0 op x.scalar y.scalar a b (taken_of x.before x.expression) (taken_of y.before y.expression) c.in_ok-left-in-Binary.ensures.value
    c.in_ok-right_from-in-Binary.ensures c.in_ok-right-in-Binary.ensures.value c.in_ok-left-in-Binary.ensures.scalar c.in_ok-right-in-Binary.ensures.scalar ∙ sym (ap (taken v.layout v k) is))
    c.joined.ensures.value

pub value-returns-in_ok-otherwise-in-Conditional-clause-value : goal.value-returns-in_ok-otherwise-in-Conditional-clause-value
value-returns-in_ok-otherwise-in-Conditional-clause-value t c =
    let v = c.args.names.now in
    let k = c.args.k in
    let test = expression_tree c.deref-in-Conditional.result.now in
    let a = expression_tree c.deref-in-Conditional-2.result.now in
    let b = expression_tree c.deref-in-Conditional-3.result.now in
    let x = c.in_ok-test-in-Conditional.test in
    let y = c.in_ok-then-in-Conditional.then in
    let z = c.in_ok-otherwise-in-Conditional.otherwise in
    let is : expression_tree c.args.tree.now ≡ syntax.Conditional test a b =
    ap expression_tree c.in-Conditional.is
    ∙ ap (λ (e : tree.Expression). syntax.Conditional (expression_tree e) (expression_tree c.in-Conditional.then.value) (expression_tree c.in-Conditional.otherwise.value)) (sym c.deref-in-Conditional.ensures)
    ∙ ap (λ (e : tree.Expression). syntax.Conditional test (expression_tree e) (expression_tree c.in-Conditional.otherwise.value)) (sym c.deref-in-Conditional-2.ensures)
    ∙ ap (λ (e : tree.Expression). syntax.Conditional test a (expression_tree e)) (sym c.deref-in-Conditional-3.ensures) in
    if_ok _ _ c.conditionally.result
    (λ u e. e ∙ conditional-value v.layout v k test a b (taken_of x.before x.expression) (taken_of y.before y.expression) (taken_of z.before z.expression) c.in_ok-test-in-Conditional.ensures.value
    c.in_ok-then-in-Conditional.ensures.value c.in_ok-otherwise-in-Conditional.ensures.value ∙ sym (ap (taken v.layout v k) is))
    c.conditionally.ensures.value
