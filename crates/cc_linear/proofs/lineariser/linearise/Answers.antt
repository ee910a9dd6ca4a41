-- The answer's type keeps the fact that the run keeps up: a pair of LTL and what is made from its code make a
-- pair of Linear.
use Rattle.std.proofs.Common.{ap, sym, subst, ◌∙◌}
use Rattle.std.specs.Arc.{arc_value}
use Rattle.cc_ast.specs.declared.unit.Unit as parsed
use Rattle.cc_ltl.specs.Ltl.{Ltl}
use Rattle.cc_linear_language.specs.Pair.{Pair, IsPair}
use Rattle.cc_linear.specs.Targets.{NoneIdle}
use Rattle.cc_linear.specs.internal.Whole.{IsMadeOf}
use Rattle.cc_validate.specs.Pair as above
use Rattle.cc_linear.proofs.Whole.{pair_made, made_without}
use Rattle.cc_linear.proofs.lineariser.linearise.Goals as goal

pub new-requires : goal.new-requires
new-requires c =
    let p = c.args.pair in
    let items = c.in_ok-code.code.items in
    let made : IsMadeOf p.ltl items = subst (λ (l : Ltl). IsMadeOf l items) c.code.ensures.code c.in_ok-code.ensures in
    let e = c.code.ensures in
    let kept : above.IsPair p = record { typed = e.typed; function = c.function-function.ensures.of_unit; ltl = e.ltl; graph = e.graph; calls = e.calls; keeps_up = e.keeps_up } in
    let unit = c.into_parts-unit.ensures.unit in
    let ltl = c.into_parts-unit.ensures.ltl in
    subst (λ m. IsPair (record { mode = m; unit = arc_value c.into_parts-unit.result.0; function = c.function-function.result; ltl = c.into_parts-unit.result.1; code = items })) (sym c.mode-mode.ensures.answer)
    (subst (λ (u : parsed.Unit). IsPair (record { mode = p.mode; unit = u; function = c.function-function.result; ltl = c.into_parts-unit.result.1; code = items })) (sym unit)
    (subst (λ f. IsPair (record { mode = p.mode; unit = p.unit; function = f; ltl = c.into_parts-unit.result.1; code = items })) (sym c.function-function.ensures.answer)
    (subst (λ (l : Ltl). IsPair (record { mode = p.mode; unit = p.unit; function = p.function; ltl = l; code = items })) (sym ltl) (pair_made p items kept made))))

pub returns-clause-labels : goal.returns-clause-labels
returns-clause-labels c =
    let p = c.args.pair in
    let items = c.in_ok-code.code.items in
    let made : IsMadeOf p.ltl items = subst (λ (l : Ltl). IsMadeOf l items) c.code.ensures.code c.in_ok-code.ensures in
    subst NoneIdle (sym (ap (λ (q : Pair). q.code) c.new.ensures)) (made_without p.ltl items made)
