-- Even if memory runs out, a device step is due that can fail, so the event has a step.
use Rattle.std.proofs.Common.{◌≡◌, refl, arith}
use Rattle.cc_core.specs.declared.contents.Due.TheVariants as due
use Rattle.cc_core.specs.Step.{Fails}
use Rattle.cc_core.proofs.Possible.{fails, committing_is, memory_answers}
use Rattle.cc_core.proofs.device.fail_core.Goals as goal

pub returns-in_err-failed : goal.returns-in_err-failed
returns-in_err-failed c =
    let at = c.in-Committing in
    let same : at.committing.number ≡ c.args.client.number = omega arith in
    let committing = committing_is c.args.core.now.phase at.committing c.args.client at.numbered at.due at.due at.is refl same in
    let e = c.from_residual.ensures in
    memory_answers (Fails c.args.client c.args.core.now) c.from_residual.result c.args.core.now c.args.core.now e.0 e.1 (fails c.args.core.now c.args.client at.numbered at.due committing (λ is. c.in_default-due.not-Acknowledge is)) refl

pub returns-in_err-commit-in-WriteBody : goal.returns-in_err-commit-in-WriteBody
returns-in_err-commit-in-WriteBody c =
    let at = c.in-Committing in
    let same : at.committing.number ≡ c.args.client.number = omega arith in
    let committing = committing_is c.args.core.now.phase at.committing c.args.client at.numbered at.due due.WriteBody at.is c.in-WriteBody.is same in
    let e = c.from_residual-in_err-commit-in-WriteBody.ensures in
    memory_answers (Fails c.args.client c.args.core.now) c.from_residual-in_err-commit-in-WriteBody.result c.args.core.now c.args.core.now e.0 e.1 (fails c.args.core.now c.args.client at.numbered due.WriteBody committing (λ other. absurd (cc))) refl

pub returns-in_err-commit-in-WriteGate : goal.returns-in_err-commit-in-WriteGate
returns-in_err-commit-in-WriteGate c =
    let at = c.in-Committing in
    let same : at.committing.number ≡ c.args.client.number = omega arith in
    let committing = committing_is c.args.core.now.phase at.committing c.args.client at.numbered at.due due.WriteGate at.is c.in-WriteGate.is same in
    let e = c.from_residual-in_err-commit-in-WriteGate.ensures in
    memory_answers (Fails c.args.client c.args.core.now) c.from_residual-in_err-commit-in-WriteGate.result c.args.core.now c.args.core.now e.0 e.1 (fails c.args.core.now c.args.client at.numbered due.WriteGate committing (λ other. absurd (cc))) refl
