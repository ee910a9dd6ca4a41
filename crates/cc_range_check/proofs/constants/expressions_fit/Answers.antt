use Rattle.std.proofs.Common.{List, sym, subst}
use Rattle.std.proofs.lemmas.List.{drop_all}
use Rattle.cc_types.proofs.Items.{drop-item}
use Rattle.cc_cminor_language.specs.Code.{expressions_of}
use Rattle.cc_cminor_language.specs.declared.code.Expression as expression
use Rattle.cc_guard.specs.Safe.{AllConstantsFit}
use Rattle.cc_range_check.proofs.constants.expressions_fit.Goals as goal

pub loop-e-preserved : goal.loop-e-preserved
loop-e-preserved c =
    let left = drop-item c.args.es.now c.loop-e.e-index c.e-item.result c.loop-e-test.true c.e-item.is in
    λ h. c.loop-e.invariant (subst (λ (l : List expression.Expression). AllConstantsFit (expressions_of l)) (sym left) (c.expression_fits.ensures, h))

pub returns : goal.returns
returns c = c.loop-e.invariant (subst (λ (l : List expression.Expression). AllConstantsFit (expressions_of l)) (sym (drop_all c.loop-e.e-index c.args.es.now c.loop-e-test.false)) tt)
