-- The pair's parts are those of the lemma on pairs of Linear.
use Rattle.std.proofs.Common.{ap, ◌∙◌, subst}
use Rattle.cc_ast.specs.Source.{source}
use Rattle.cc_ast.specs.declared.unit.Unit as parsed
use Rattle.cc_types.specs.Typed.{IsWithinLimits}
use Rattle.cc_linear_language.specs.Pair as above
use Rattle.cc_select.specs.Pair.{Pair}
use Rattle.cc_select.specs.Selection.{selected}
use Rattle.cc_select.proofs.Selecting.{pair_selected}
use Rattle.cc_select.proofs.Handing.{handed}
use Rattle.cc_select.proofs.selection.select.Goals as goal

pub new-requires : goal.new-requires
new-requires c =
    let p = c.args.pair in
    let limits = subst (λ (u : parsed.Unit). IsWithinLimits (source u).externals) (c.deref.ensures ∙ c.unit.ensures.answer) c.is_within_limits.ensures in
    handed p.mode _ p.unit _ p.function _ p.ltl _ (selected p.code) _ c.mode-mode.ensures.answer c.into_parts-unit.ensures.unit c.function-function.ensures.answer c.into_parts-unit.ensures.ltl (c.in_ok-steps.ensures ∙ ap selected c.code.ensures.code)
    (pair_selected p (subst above.IsPair c.pair.view_is c.pair.invariant) limits)

pub returns-clause-mode : goal.returns-clause-mode
returns-clause-mode c = ap (λ (p : Pair). p.mode) c.new.ensures ∙ c.mode-mode.ensures.answer

pub returns-clause-function : goal.returns-clause-function
returns-clause-function c = ap (λ (p : Pair). p.function) c.new.ensures ∙ c.function-function.ensures.answer

pub returns-clause-ltl : goal.returns-clause-ltl
returns-clause-ltl c = ap (λ (p : Pair). p.ltl) c.new.ensures ∙ c.into_parts-unit.ensures.ltl

pub returns-clause-code : goal.returns-clause-code
returns-clause-code c = ap (λ (p : Pair). p.code) c.new.ensures ∙ c.in_ok-steps.ensures ∙ ap selected c.code.ensures.code
