-- If the core refuses the reply, so does this function, and no job ends.
use Rattle.std.proofs.Common.{refl, subst}
use Rattle.cc_core.specs.internal.Answers.{Answers}
use Rattle.cc_core.specs.Step.{Acknowledges}
use Rattle.cc_core.proofs.Possible.{ends_refused}
use Rattle.cc_core.proofs.events.acknowledge.Goals as goal

pub returns-in-Err : goal.returns-in-Err
returns-in-Err g c =
    let old = c.args.contents.now in
    let core = c.acknowledge_core.new.core in
    ends_refused c.args.client (Acknowledges c.args.client) old (record old { core = core }) c.in-Err.fault
    (subst (λ r. Answers (Acknowledges c.args.client old.core) r old.core core) c.in-Err.is c.acknowledge_core.ensures) refl refl
