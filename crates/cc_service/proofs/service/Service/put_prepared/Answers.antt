-- The unit was compiled from the prepared text.
use Rattle.std.proofs.Common.{ℕ, List, refl, subst}
use Rattle.cc_history.specs.Calls.{Command}
use Rattle.cc_service.specs.Serving.{Puts}
use Rattle.cc_service.proofs.Answering.{not_put, past_text, put}
use Rattle.cc_service.proofs.service.Service.put_prepared.Goals as goal

pub returns-in-Ok-unit-clause-answers : goal.returns-in-Ok-unit-clause-answers
returns-in-Ok-unit-clause-answers g c =
    let name = c.args.name.now in
    let mode = c.args.prepared.mode in
    let text = c.args.prepared.text in
    let Asks : Command → Type 0 = Puts c.args.put mode name text in
    let command = c.change_of.result in
    let asked = subst (λ (n : List ℕ). Puts c.args.put mode n text command) c.in-Ok.ensures.answer (c.change_of.ensures mode text (c.in-Ok-unit.ensures.source, c.in-Ok-unit.ensures.agrees, c.in-Ok-unit.ensures.follows)) in
    put Asks command asked c.args.client.now.member c.change-answer.new.client.member mode name text (c.in-Ok.ensures.answers.0 refl) c.in-Ok-unit.ensures.program c.change-answer.result c.change-answer.ensures.answers

pub returns-in-Ok-unit-clause-past_text : goal.returns-in-Ok-unit-clause-past_text
returns-in-Ok-unit-clause-past_text g c =
    past_text c.change_of.result c.args.client.now.member c.change-answer.new.client.member c.change-answer.result c.change-answer.ensures.answers

pub returns-in-Err-clause-answers : goal.returns-in-Err-clause-answers
returns-in-Err-clause-answers g c =
    let name = c.args.name.now in
    let mode = c.args.prepared.mode in
    let text = c.args.prepared.text in
    let member = c.args.client.now.member in
    not_put mode (Puts c.args.put mode name text) name text member member (c.in-Ok.ensures.answers.0 refl) refl c.in-Err.fault c.in-Err.ensures.refused
