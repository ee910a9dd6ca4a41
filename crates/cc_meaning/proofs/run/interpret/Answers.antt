-- The form's run from the start of `main` has the source's behavior.
use Rattle.std.proofs.Common.{◌≡◌, ℕ, List, ◌-◌, ◌<◌, false, length, ap, ◌∙◌, subst, arith}
use Rattle.cc_ast.specs.Source.{source}
use Rattle.cc_words.specs.Observed.{written_words}
use Rattle.cc_c_semantics.specs.Outcome.{Stop}
use Rattle.cc_c_semantics.specs.Meaning.{observed_behavior}
use Rattle.cc_meaning.specs.Erase.{stop_tree}
use Rattle.cc_meaning.specs.internal.Form.{resolved}
use Rattle.cc_meaning.specs.internal.FormErase.{form_tree}
use Rattle.cc_meaning.specs.internal.FormMeaning.{first_configuration}
use Rattle.cc_meaning.specs.internal.Ran.{ComesTo}
use Rattle.cc_meaning.specs.internal.Shows.{Shows}
use Rattle.cc_meaning.proofs.Running.{main_below, main_comes}
use Rattle.cc_meaning.proofs.run.interpret.Goals as goal

pub index-main-requires : goal.index-main-requires
index-main-requires c =
    let form = form_tree c.in_ok-form.form in
    let f = c.externals.ensures in
    let is : form ≡ resolved (source c.args.unit.now).externals = c.in_ok-form.ensures ∙ ap resolved f.tree in
    let below : form.main < length form.functions = main_below (source c.args.unit.now) form f.typed f.limits is in
    omega arith

pub run-halt-requires : goal.run-halt-requires
run-halt-requires c =
    let form = form_tree c.in_ok-form.form in
    let f = c.externals.ensures in
    let unit = source c.args.unit.now in
    let is : form ≡ resolved unit.externals = c.in_ok-form.ensures ∙ ap resolved f.tree in
    let first = first_configuration form c.index-main.result.now c.args.input.now (c.args.steps - 1) in
    let comes = main_comes unit c.args.input.now c.args.steps form c.index-main.result.now f.typed f.limits is (omega arith) c.index-main.ensures in (
      false,
      unit.externals,
      first,
      observed_behavior unit c.args.input.now c.args.steps,
      subst (λ form'. Shows c.in_ok-interpreter.interpreter form' first) is c.in_ok-interpreter.ensures,
      subst (λ form'. ComesTo form' first (observed_behavior unit c.args.input.now c.args.steps)) is comes,
    )

pub returns-in-Stopped : goal.returns-in-Stopped
returns-in-Stopped c =
    let form = form_tree c.in_ok-form.form in
    let f = c.externals.ensures in
    let unit = source c.args.unit.now in
    let is : form ≡ resolved unit.externals = c.in_ok-form.ensures ∙ ap resolved f.tree in
    let first = first_configuration form c.index-main.result.now c.args.input.now (c.args.steps - 1) in
    let comes = main_comes unit c.args.input.now c.args.steps form c.index-main.result.now f.typed f.limits is (omega arith) c.index-main.ensures in
    let o = observed_behavior unit c.args.input.now c.args.steps in
    let t = c.in-Stopped.ensures form first o c.in_ok-interpreter.ensures comes in
    ap (λ (ws : List ℕ). record { stop = stop_tree c.in-Stopped.stop; output = ws }) (c.from_vec-in-Stopped.ensures ∙ t.1)
    ∙ ap (λ (s : Stop ℕ). record { stop = s; output = written_words o.output }) t.0
