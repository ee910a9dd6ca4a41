use Rattle.std.proofs.Common.{◌≡◌, ◌+◌, ◌∙◌, List, [], ◌∷◌, ◌++◌, drop, sym, ap, append_assoc}
use Rattle.cc_types.proofs.Items.{drop-item}
use Rattle.cc_cminor_language.specs.Code.{expression_of, expressions_of}
use Rattle.cc_cminor_language.specs.Statements.{statements_of}
use Rattle.cc_cminor_language.specs.declared.code.Expression as expression
use Rattle.cc_cminor_language.proofs.Codes.{expressions_push}
use Rattle.cc_guard.specs.Guard.{GuardedAll, guarded, guarded_all}
use Rattle.cc_guard.specs.internal.Written.{codes, sizes_of}
use Rattle.cc_guard.proofs.Writing.{codes_then}
use Rattle.cc_guard.proofs.expressions.expressions.Goals as goal

pub loop-e-preserved : goal.loop-e-preserved
loop-e-preserved c =
    let objects = sizes_of c.args.sizes.now in
    let b = c.args.blocks in
    let i = c.loop-e.e-index in
    let old = c.loop-e.guards in
    let new = c.expression.new.guards in
    let left = drop-item c.args.es.now i c.e-item.result c.loop-e-test.true c.e-item.is in
    let after = expressions_of (drop (i + 1) c.args.es.now) in
    let a = c.in_ok-value.ensures.adds in
    let g = guarded objects old.known.items old.next (expression_of c.e-item.result) in
    let r = guarded_all objects new.known.items new.next after in
    let same : r ≡ guarded_all objects g.known g.next after = λ j. guarded_all objects (a.known j) (a.next j) after in
    let xs = expressions_of c.loop-e.all.items in
    let ss = statements_of old.before.items in
    record {
      values = ap (λ (l : List expression.Expression). expressions_of l ++ r.values) c.in_ok-push.ensures.items ∙ ap (λ l. l ++ r.values) (expressions_push c.loop-e.all.items c.into_inner.result)
          ∙ append_assoc xs (expression_of c.into_inner.result ∷ []) r.values ∙ ap (λ x. xs ++ (x ∷ r.values)) (ap expression_of c.into_inner.ensures ∙ c.in_ok-value.ensures.value)
          ∙ ap (λ (k : GuardedAll). xs ++ (g.value ∷ k.values)) same
          ∙ sym (ap (λ (l : List expression.Expression). xs ++ (guarded_all objects old.known.items old.next (expressions_of l)).values) left) ∙ c.loop-e.invariant.values;
      before = ap (λ l. l ++ codes b r.before) a.before ∙ append_assoc ss (codes b g.before) (codes b r.before) ∙ ap (λ l. ss ++ l) (sym (codes_then b g.before r.before))
          ∙ ap (λ (k : GuardedAll). ss ++ codes b (g.before ++ k.before)) same
          ∙ sym (ap (λ (l : List expression.Expression). ss ++ codes b (guarded_all objects old.known.items old.next (expressions_of l)).before) left) ∙ c.loop-e.invariant.before;
      next = ap (λ (k : GuardedAll). k.next) same ∙ sym (ap (λ (l : List expression.Expression). (guarded_all objects old.known.items old.next (expressions_of l)).next) left) ∙ c.loop-e.invariant.next;
      known = ap (λ (k : GuardedAll). k.known) same ∙ sym (ap (λ (l : List expression.Expression). (guarded_all objects old.known.items old.next (expressions_of l)).known) left) ∙ c.loop-e.invariant.known;
    }
