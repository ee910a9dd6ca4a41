use Rattle.std.proofs.Common.{◌≡◌, suc, ◌-◌, ◌<◌, false, ap, sym, ◌∙◌, arith}
use Rattle.cc_ast.specs.Erase.{statement_tree}
use Rattle.cc_wide.specs.Places.{bare_statement}
use Rattle.cc_wide.specs.Lowering.{few_cases}
use Rattle.cc_wide_check.specs.internal.Sections.{cases_in, are_few, is_halved}
use Rattle.cc_wide_check.specs.internal.Views.{wide_of}
use Rattle.cc_wide_check.proofs.Sections.{chosen-few, chosen-halved}
use Rattle.cc_wide_check.proofs.choices.+choices.Goals as goal

pub is_choice-returns-then-are_few : goal.is_choice-returns-then-are_few
is_choice-returns-then-are_few t c =
    c.is_assigned.ensures
    ∙ chosen-few c.args.levels c.args.local c.args.default c.args.low c.args.high (wide_of c.args.all.now) (bare_statement (statement_tree c.args.s.now))
    (ap (are_few c.args.levels few_cases) (sym c.count_in.ensures) ∙ sym c.are_few.ensures.is ∙ c.if-are_few.true)

pub is_choice-returns : goal.is_choice-returns
is_choice-returns t c =
    let ws = wide_of c.args.all.now in
    let s = bare_statement (statement_tree c.args.s.now) in
    let some : 0 < c.args.levels = c.are_few.ensures.some c.if-are_few.false in
    let one : c.args.levels ≡ suc (c.args.levels - 1) = omega (arith, some) in
    c.is_halved.ensures
    ∙ ap (λ m. is_halved (c.args.levels - 1) c.args.local c.args.default c.args.low m c.args.high (cases_in 0 false ws) s) c.middle.ensures
    ∙ chosen-halved c.args.levels (c.args.levels - 1) c.args.local c.args.default c.args.low c.args.high ws s one
    (ap (are_few c.args.levels few_cases) (sym c.count_in.ensures) ∙ sym c.are_few.ensures.is ∙ c.if-are_few.false)
