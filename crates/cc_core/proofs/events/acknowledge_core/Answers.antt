-- Even if memory runs out, the client's command is in commit and its reply is due, so the event has a step.
use Rattle.std.proofs.Common.{◌≡◌, refl, ap, ◌∙◌, ◌-◌, arith, length, take}
use Rattle.cc_core.specs.declared.contents.Due.TheVariants as due
use Rattle.cc_core.specs.Step.{Acknowledges}
use Rattle.cc_core.proofs.Possible.{acknowledges, committing_is, memory_answers, where_refused}
use Rattle.cc_core.proofs.Lists.{take-push}
use Rattle.cc_core.proofs.events.acknowledge_core.Goals as goal

pub returns-in_err-again : goal.returns-in_err-again
returns-in_err-again c =
    let at = c.in-Committing in
    let same : at.committing.number ≡ c.args.client.number = omega arith in
    let committing = committing_is c.args.core.now.phase at.committing c.args.client at.numbered at.due due.Acknowledge at.is c.in-Acknowledge.is same in
    let e = c.from_residual.ensures in
    memory_answers (Acknowledges c.args.client c.args.core.now) c.from_residual.result c.args.core.now c.args.core.now e.0 e.1 (acknowledges c.args.core.now c.args.client at.numbered committing) refl

pub returns-in_err-push : goal.returns-in_err-push
returns-in_err-push c =
    let at = c.in-Committing in
    let same : at.committing.number ≡ c.args.client.number = omega arith in
    let committing = committing_is c.args.core.now.phase at.committing c.args.client at.numbered at.due due.Acknowledge at.is c.in-Acknowledge.is same in
    let e = c.from_residual-in_err-push.ensures in
    memory_answers (Acknowledges c.args.client c.args.core.now) c.from_residual-in_err-push.result c.args.core.now _ e.0 e.1 (acknowledges c.args.core.now c.args.client at.numbered committing) (ap (λ l. record c.args.core.now { acknowledged = l }) c.in_err-push.ensures.err)

pub returns-then-is_err : goal.returns-then-is_err
returns-then-is_err c =
    let at = c.in-Committing in
    let same : at.committing.number ≡ c.args.client.number = omega arith in
    let committing = committing_is c.args.core.now.phase at.committing c.args.client at.numbered at.due due.Acknowledge at.is c.in-Acknowledge.is same in
    let dropped = c.drop_last.ensures ∙ ap (λ l. take (length l - 1) l) c.in_ok-push.ensures.ok ∙ take-push c.args.core.now.acknowledged c.in_ok-again.field-0 in
    memory_answers (Acknowledges c.args.client c.args.core.now) _ c.args.core.now _ refl refl (acknowledges c.args.core.now c.args.client at.numbered committing)
    (λ i. record c.args.core.now { library = where_refused c.apply.result c.apply.ensures.leaves c.if-is_err.ensures.value i; acknowledged = dropped i })
