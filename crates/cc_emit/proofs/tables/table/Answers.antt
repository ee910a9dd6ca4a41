use Rattle.std.proofs.Common.{rules, ◌+◌, ◌-◌, sym, ap, ◌∙◌, arith}
use Rattle.cc_emit.specs.Emission.{size, long_size}
use Rattle.cc_emit.specs.internal.Behind.{near_behind}
use Rattle.cc_emit.proofs.Tabling.{label_says, filled_first, is_label_at, filled_label, filled_past, filled_other, filled_all}
use Rattle.cc_emit.proofs.tables.table.Goals as goal

pub loop-at-init : goal.loop-at-init
loop-at-init c = filled_first _ _ _ _ _ (search rules)

pub offset_bounds-steps-at : goal.offset_bounds-steps-at
offset_bounds-steps-at c = omega (arith, c.loop-at.invariant.within, c.requires)

pub bounds-steps-at : goal.bounds-steps-at
bounds-steps-at c = omega (arith, c.loop-at.invariant.within, c.loop-at-test.true)

pub overflow_add-here : goal.overflow_add-here
overflow_add-here c = omega (arith, c.loop-at.invariant.few, c.requires, c.long_size-long.ensures.few)

pub overflow_add-behind : goal.overflow_add-behind
overflow_add-behind c = omega (arith, c.loop-at.invariant.few_all, c.requires, c.size-behind.ensures.few)

pub loop-at-preserved-then-label-len : goal.loop-at-preserved-then-label-len
loop-at-preserved-then-label-len c =
    let code = c.args.steps.now in
    let f = c.args.frame.now in
    let first = c.args.first.now in
    let label = label_says c.index-steps-at.result c.in-Some.label (sym c.in-Some.is ∙ c.label_of.ensures) in
    filled_label f first code c.args.count c.loop-at.at c.loop-at.here c.loop-at.behind _ _ c.in-Some.label c.index-steps-at.result.known c.loop-at.labels.items c.loop-at.invariant
    (c.loop-at-test.true, is_label_at code (c.loop-at.at - 1) c.index-steps-at.result c.in-Some.label c.index-steps-at.result.known c.index-steps-at.is label)
    (ap (λ n. c.loop-at.here + n) (c.long_size-long.ensures.answer ∙ ap (long_size f) label))
    (ap (λ n. c.loop-at.behind + n) (c.size-behind.ensures.answer ∙ ap (size f (near_behind first (c.loop-at.here + c.long_size-long.result))) label)) (search rules)

pub loop-at-preserved-else-label-len : goal.loop-at-preserved-else-label-len
loop-at-preserved-else-label-len c =
    let code = c.args.steps.now in
    let f = c.args.frame.now in
    let first = c.args.first.now in
    let label = label_says c.index-steps-at.result c.in-Some.label (sym c.in-Some.is ∙ c.label_of.ensures) in
    filled_past f first code c.args.count c.loop-at.at c.loop-at.here c.loop-at.behind _ _ c.in-Some.label c.index-steps-at.result.known c.loop-at.labels.items c.loop-at.invariant
    (c.loop-at-test.true, is_label_at code (c.loop-at.at - 1) c.index-steps-at.result c.in-Some.label c.index-steps-at.result.known c.index-steps-at.is label)
    (ap (λ n. c.loop-at.here + n) (c.long_size-long.ensures.answer ∙ ap (long_size f) label))
    (ap (λ n. c.loop-at.behind + n) (c.size-behind.ensures.answer ∙ ap (size f (near_behind first (c.loop-at.here + c.long_size-long.result))) label)) (search rules)

pub loop-at-preserved : goal.loop-at-preserved
loop-at-preserved c =
    filled_other _ _ _ _ _ _ _ _ _ c.index-steps-at.result _ c.loop-at.invariant (c.loop-at-test.true, c.index-steps-at.is) (ap (λ n. c.loop-at.here + n) c.long_size-long.ensures.answer)
    (ap (λ n. c.loop-at.behind + n) c.size-behind.ensures.answer) (omega (arith, c.long_size-long.ensures.answer, c.long_size-long.ensures.few)) (omega (arith, c.size-behind.ensures.answer, c.size-behind.ensures.few)) (λ n e. c.in_default.not-Some n (c.label_of.ensures ∙ e))

pub returns-clause-table : goal.returns-clause-table
returns-clause-table c = (filled_all _ _ _ _ _ _ _ _ c.loop-at.invariant (search rules)).0

pub returns-clause-whole : goal.returns-clause-whole
returns-clause-whole c = (filled_all _ _ _ _ _ _ _ _ c.loop-at.invariant (search rules)).1

pub returns-clause-few : goal.returns-clause-few
returns-clause-few c = omega (arith, c.loop-at.invariant.few_all, c.requires)
