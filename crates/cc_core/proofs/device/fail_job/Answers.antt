-- If the core refuses the failure, so does this function, and no job ends.
use Rattle.std.proofs.Common.{refl, subst}
use Rattle.cc_core.specs.internal.Answers.{Answers}
use Rattle.cc_core.specs.Step.{Fails}
use Rattle.cc_core.proofs.Possible.{fails_refused}
use Rattle.cc_core.proofs.device.fail_job.Goals as goal

pub returns-in-Err : goal.returns-in-Err
returns-in-Err g c =
    let old = c.args.contents.now in
    let core = c.fail_core.new.core in
    let at = c.in-Committing in
    fails_refused at.client at.field-1 at.field-2 old (record old { core = core }) c.in-Err.fault at.is
    (subst (λ r. Answers (Fails at.client old.core) r old.core core) c.in-Err.is c.fail_core.ensures) refl refl
