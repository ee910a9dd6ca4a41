-- If the text is handed in, what is put is its unit; if it cannot be handed in, the answer is that for a text that was not
-- compiled.
use Rattle.std.proofs.Common.{ℕ, List, refl, sym, ap, subst}
use Rattle.cc_c_semantics.specs.declared.mode.Mode.{Mode}
use Rattle.cc_pool.specs.declared.item.Item.{Item}
use Rattle.cc_service.specs.Client.{ClientView}
use Rattle.cc_service.specs.Compiling.{HasSentFor}
use Rattle.cc_service.specs.Serving.{PutAnswers, Puts}
use Rattle.cc_service.proofs.Answering.{not_prepared, not_put}
use Rattle.cc_service.proofs.service.Service.put_in.Goals as goal

pub returns-in-Ok-begun-clause-answers : goal.returns-in-Ok-begun-clause-answers
returns-in-Ok-begun-clause-answers g c =
    let new = c.put_prepared.new.client.member in
    let result = c.put_prepared.result in
    let name = c.args.name.now in
    let mode = c.args.mode in
    let prepared = c.in-Ok-begun.prepared in
    subst (λ (t : List ℕ). PutAnswers mode (Puts c.args.put mode name t) name t c.args.client.now.member new result) c.in-Ok-begun.ensures.text
    (subst (λ (m : Mode). PutAnswers m (Puts c.args.put m name prepared.text) name prepared.text c.args.client.now.member new result) c.in-Ok-begun.ensures.mode
    (subst (λ (v : ClientView). PutAnswers prepared.mode (Puts c.args.put prepared.mode name prepared.text) name prepared.text v.member new result) c.client.view_is c.put_prepared.ensures.answers))

pub returns-in-Ok-begun-clause-sent : goal.returns-in-Ok-begun-clause-sent
returns-in-Ok-begun-clause-sent g c =
    let source = c.args.source.now in
    let grown = subst (λ (l : List Item). HasSentFor source c.client.inside.pass.sent l) (sym c.put_prepared.ensures.sent) c.in-Ok-begun.ensures.sent in
    subst (λ (v : ClientView). HasSentFor source v.sent c.put_prepared.new.client.sent) c.client.view_is grown

pub returns-in-Err-clause-sent : goal.returns-in-Err-clause-sent
returns-in-Err-clause-sent g c =
    subst (λ (v : ClientView). HasSentFor c.args.source.now v.sent c.begun.new.pass.sent) c.client.view_is c.in-Err.ensures.sent

pub returns-in-Err-clause-answers : goal.returns-in-Err-clause-answers
returns-in-Err-clause-answers g c =
    let name = c.args.name.now in
    let source = c.args.source.now in
    not_put c.args.mode (Puts c.args.put c.args.mode name source) name source c.args.client.now.member c.client.inside.member (c.in-Ok.ensures.answers.0 refl) (ap (λ (c : ClientView). c.member) c.client.view_is) c.in-Err.fault
    (not_prepared c.args.mode source c.in-Err.fault c.in-Err.ensures.refused)
