-- One more argument is seen.
use Rattle.std.proofs.Common.{◌+◌, List, drop, sym, subst}
use Rattle.std.proofs.lemmas.List.{drop_all}
use Rattle.cc_types.proofs.Items.{drop-item}
use Rattle.cc_cminor_language.specs.Code.{expression_of, expressions_of}
use Rattle.cc_cminor_language.specs.declared.code.Expression as expression
use Rattle.cc_range_check.specs.Sizes.{sizes_of}
use Rattle.cc_range_check.specs.Values.{facts_of}
use Rattle.cc_range_check.specs.internal.Walked.{FindsInAll}
use Rattle.cc_range_check.proofs.Finding.{finds_none, finds_all}
use Rattle.cc_range_check.proofs.expressions.see_expressions.Goals as goal

pub loop-e-preserved : goal.loop-e-preserved
loop-e-preserved c = λ last h.
    let sizes = sizes_of c.args.sizes.now in
    let F = facts_of c.args.facts.now in
    let i = c.loop-e.e-index in
    let left = drop-item c.args.es.now i c.e-item.result c.loop-e-test.true c.e-item.is in
    c.loop-e.invariant last (subst (λ (l : List expression.Expression). FindsInAll sizes F (expressions_of l) c.loop-e.found last) (sym left)
    (finds_all sizes F (expression_of c.e-item.result) (expressions_of (drop (i + 1) c.args.es.now)) c.loop-e.found c.see_expression.new.found last c.in_ok-see_expression.ensures.found h))

pub returns : goal.returns
returns c =
    let sizes = sizes_of c.args.sizes.now in
    let F = facts_of c.args.facts.now in
    c.loop-e.invariant c.loop-e.found (subst (λ (l : List expression.Expression). FindsInAll sizes F (expressions_of l) c.loop-e.found c.loop-e.found) (sym (drop_all c.loop-e.e-index c.args.es.now c.loop-e-test.false)) (finds_none c.loop-e.found))
