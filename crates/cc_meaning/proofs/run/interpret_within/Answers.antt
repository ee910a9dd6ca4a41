-- The form's run from the start of `main` has the source's behavior, as far as its words may be written.
use Rattle.std.proofs.Common.{◌≡◌, ◌-◌, ◌<◌, length, refl, ap, ◌∙◌, subst, arith}
use Rattle.cc_ast.specs.Source.{source}
use Rattle.cc_c_semantics.specs.Meaning.{observed_behavior}
use Rattle.cc_meaning.specs.internal.Form.{resolved}
use Rattle.cc_meaning.specs.internal.FormErase.{form_tree}
use Rattle.cc_meaning.specs.internal.FormMeaning.{first_configuration}
use Rattle.cc_meaning.specs.internal.Ran.{ComesTo}
use Rattle.cc_meaning.specs.internal.Shows.{Shows}
use Rattle.cc_meaning.proofs.Running.{main_below, main_comes}
use Rattle.cc_meaning.proofs.run.interpret_within.Goals as goal

pub index-main-requires : goal.index-main-requires
index-main-requires c =
    let form = form_tree c.in_ok-form.form in
    let f = c.externals.ensures in
    let is : form ≡ resolved (source c.args.unit.now).externals = c.in_ok-form.ensures ∙ ap resolved f.tree in
    let below : form.main < length form.functions = main_below (source c.args.unit.now) form f.typed f.limits is in
    omega arith

pub run_within-halt-requires : goal.run_within-halt-requires
run_within-halt-requires c =
    let form = form_tree c.in_ok-form.form in
    let f = c.externals.ensures in
    let unit = source c.args.unit.now in
    let is : form ≡ resolved unit.externals = c.in_ok-form.ensures ∙ ap resolved f.tree in
    let first = first_configuration form c.index-main.result.now c.args.input.now (c.args.steps - 1) in
    let comes = main_comes unit c.args.input.now c.args.steps form c.index-main.result.now f.typed f.limits is (omega arith) c.index-main.ensures in (
      unit.externals,
      first,
      observed_behavior unit c.args.input.now c.args.steps,
      subst (λ form'. Shows c.in_ok-interpreter.interpreter form' first) is c.in_ok-interpreter.ensures,
      subst (λ form'. ComesTo form' first (observed_behavior unit c.args.input.now c.args.steps)) is comes,
    )

pub returns-in-Stopped-clause-outcome : goal.returns-in-Stopped-clause-outcome
returns-in-Stopped-clause-outcome c =
    let form = form_tree c.in_ok-form.form in
    let f = c.externals.ensures in
    let unit = source c.args.unit.now in
    let is : form ≡ resolved unit.externals = c.in_ok-form.ensures ∙ ap resolved f.tree in
    let first = first_configuration form c.index-main.result.now c.args.input.now (c.args.steps - 1) in
    let comes = main_comes unit c.args.input.now c.args.steps form c.index-main.result.now f.typed f.limits is (omega arith) c.index-main.ensures in
    let o = observed_behavior unit c.args.input.now c.args.steps in
    c.bounded.ensures.outcome o (c.in-Stopped.ensures form first o refl c.in_ok-interpreter.ensures comes)

pub returns-in-Stopped-clause-cut : goal.returns-in-Stopped-clause-cut
returns-in-Stopped-clause-cut c =
    let form = form_tree c.in_ok-form.form in
    let f = c.externals.ensures in
    let unit = source c.args.unit.now in
    let is : form ≡ resolved unit.externals = c.in_ok-form.ensures ∙ ap resolved f.tree in
    let first = first_configuration form c.index-main.result.now c.args.input.now (c.args.steps - 1) in
    let comes = main_comes unit c.args.input.now c.args.steps form c.index-main.result.now f.typed f.limits is (omega arith) c.index-main.ensures in
    let o = observed_behavior unit c.args.input.now c.args.steps in
    c.bounded.ensures.cut o (c.in-Stopped.ensures form first o refl c.in_ok-interpreter.ensures comes)
