-- If the text is handed in, what is put is its unit; if it cannot be handed in, the answer is that for a text that was not
-- compiled.
use Rattle.std.proofs.Common.{ℕ, IsTrue, List, refl, sym, ap, subst}
use Rattle.cc_library.specs.Name.{is_name}
use Rattle.cc_c_semantics.specs.declared.mode.Mode.{Mode}
use Rattle.cc_pool.specs.declared.item.Item.{Item}
use Rattle.cc_service.specs.Client.{ClientView}
use Rattle.cc_service.specs.Compiling.{HasSentFor}
use Rattle.cc_service.specs.Updating.{UpdateAnswers}
use Rattle.cc_service.proofs.Answering.{not_prepared}
use Rattle.cc_service.proofs.Updating.{not_updated}
use Rattle.cc_service.proofs.service.Service.update_in.Goals as goal

pub update_unit-answer-requires-clause-named : goal.update_unit-answer-requires-clause-named
update_unit-answer-requires-clause-named g c = λ _ _. subst (λ (n : List ℕ). IsTrue (is_name n)) (sym c.in-Ok.ensures.answer) (c.in-Ok.ensures.answers.0 refl)

pub returns-in-Ok-begun-clause-answers : goal.returns-in-Ok-begun-clause-answers
returns-in-Ok-begun-clause-answers g c =
    let new = c.update_unit-answer.new.client.member in
    let result = c.update_unit-answer.result in
    let expected = c.args.expected.now in
    let prepared = c.in-Ok-begun.prepared in
    subst (λ (n : List ℕ). UpdateAnswers c.args.mode n expected c.args.source.now c.args.client.now.member new result) c.in-Ok.ensures.answer
    (subst (λ (t : List ℕ). UpdateAnswers c.args.mode c.in-Ok.name expected t c.args.client.now.member new result) c.in-Ok-begun.ensures.text
    (subst (λ (m : Mode). UpdateAnswers m c.in-Ok.name expected prepared.text c.args.client.now.member new result) c.in-Ok-begun.ensures.mode
    (subst (λ (v : ClientView). UpdateAnswers prepared.mode c.in-Ok.name expected prepared.text v.member new result) c.client.view_is c.update_unit-answer.ensures.answers)))

pub returns-in-Ok-begun-clause-sent : goal.returns-in-Ok-begun-clause-sent
returns-in-Ok-begun-clause-sent g c =
    let source = c.args.source.now in
    let grown = subst (λ (l : List Item). HasSentFor source c.client.inside.pass.sent l) (sym c.update_unit-answer.ensures.sent) c.in-Ok-begun.ensures.sent in
    subst (λ (v : ClientView). HasSentFor source v.sent c.update_unit-answer.new.client.sent) c.client.view_is grown

pub returns-in-Err-clause-sent : goal.returns-in-Err-clause-sent
returns-in-Err-clause-sent g c =
    subst (λ (v : ClientView). HasSentFor c.args.source.now v.sent c.begun.new.pass.sent) c.client.view_is c.in-Err.ensures.sent

pub returns-in-Err-clause-answers : goal.returns-in-Err-clause-answers
returns-in-Err-clause-answers g c =
    let source = c.args.source.now in
    not_updated c.args.mode c.args.name.now c.args.expected.now source c.args.client.now.member c.client.inside.member (c.in-Ok.ensures.answers.0 refl) (ap (λ (c : ClientView). c.member) c.client.view_is) c.in-Err.fault
    (not_prepared c.args.mode source c.in-Err.fault c.in-Err.ensures.refused)
