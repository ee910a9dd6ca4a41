-- If the core refuses the crash, so does this function, and all jobs are kept.
use Rattle.std.proofs.Common.{refl, subst}
use Rattle.cc_core.specs.internal.Answers.{Answers}
use Rattle.cc_core.specs.Step.{Crashes}
use Rattle.cc_core.proofs.Possible.{ends_all_refused}
use Rattle.cc_core.proofs.recovery.crash.Goals as goal

pub returns-in-Err : goal.returns-in-Err
returns-in-Err g c =
    let old = c.args.contents.now in
    let core = c.crash_core.new.core in
    ends_all_refused (Crashes c.args.choice.now) old (record old { core = core }) c.in-Err.fault
    (subst (λ r. Answers (Crashes c.args.choice.now old.core) r old.core core) c.in-Err.is c.crash_core.ensures) refl refl
