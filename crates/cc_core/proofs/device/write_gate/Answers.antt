-- Even if memory runs out, this device step is due, so the event has a step.
use Rattle.std.proofs.Common.{refl}
use Rattle.cc_core.specs.declared.contents.Due.TheVariants as due
use Rattle.cc_core.specs.Step.{Advances}
use Rattle.cc_core.proofs.Possible.{advances, committing_is, memory_answers}
use Rattle.cc_core.proofs.device.write_gate.Goals as goal

pub returns-in_err-commit : goal.returns-in_err-commit
returns-in_err-commit c =
    let at = c.in-Committing in
    let committing = committing_is c.args.core.now.phase at.field-0 at.field-0 at.numbered at.due due.WriteGate at.is c.in-WriteGate.is refl in
    let e = c.from_residual.ensures in
    memory_answers (Advances due.WriteGate c.args.core.now) c.from_residual.result c.args.core.now c.args.core.now e.0 e.1 (advances due.WriteGate c.args.core.now at.field-0 at.numbered committing) refl
