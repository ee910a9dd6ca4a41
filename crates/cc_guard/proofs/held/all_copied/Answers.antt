use Rattle.std.proofs.Common.{◌+◌, ◌∙◌, List, [], ◌∷◌, ◌++◌, drop, sym, ap, append_assoc}
use Rattle.cc_types.proofs.Items.{drop-item}
use Rattle.cc_cminor_language.specs.Code.{expression_of, expressions_of}
use Rattle.cc_cminor_language.specs.declared.code.Expression as expression
use Rattle.cc_cminor_language.proofs.Codes.{expressions_push}
use Rattle.cc_guard.proofs.held.all_copied.Goals as goal

pub loop-e-preserved : goal.loop-e-preserved
loop-e-preserved c =
    let i = c.loop-e.e-index in
    let left = drop-item c.args.es.now i c.e-item.result c.loop-e-test.true c.e-item.is in
    let after = expressions_of (drop (i + 1) c.args.es.now) in
    let xs = expressions_of c.loop-e.copies.items in
    ap (λ (l : List expression.Expression). expressions_of l ++ after) c.in_ok-push.ensures.items ∙ ap (λ l. l ++ after) (expressions_push c.loop-e.copies.items c.into_inner.result)
    ∙ append_assoc xs (expression_of c.into_inner.result ∷ []) after ∙ ap (λ x. xs ++ (x ∷ after)) (ap expression_of c.into_inner.ensures ∙ c.in_ok-copy.ensures)
    ∙ sym (ap (λ (l : List expression.Expression). xs ++ expressions_of l) left) ∙ c.loop-e.invariant
