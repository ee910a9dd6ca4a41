-- Even if memory runs out, the job exists and its pieces have all been answered, so the event has a step.
use Rattle.std.proofs.Common.{◌≡◌, refl, sym, ap, Some, arith}
use Rattle.std.specs.Prelude.{IsTrue}
use Rattle.std.proofs.lemmas.Grind.{common_steps}
use Rattle.std.specs.FinMap as table
use Rattle.cc_core.specs.Job.{all_there}
use Rattle.cc_core.specs.Step.{IsFree, BeginsCommit}
use Rattle.cc_core.proofs.Possible.{begins, memory_answers}
use Rattle.cc_core.proofs.events.begin.Goals as goal

pub returns-in_err-command-clause-answers : goal.returns-in_err-command-clause-answers
returns-in_err-command-clause-answers g c =
    let told : IsTrue c.is_free.result = grind (arith, common_steps) in
    let free : IsFree c.args.contents.now.core.phase = c.is_free.ensures.0 told in
    let held : table.get c.args.contents.now.jobs c.args.client.number ≡ Some c.in-Some.job.now = sym c.in-Some.ensures in
    let ready : IsTrue (all_there c.in-Some.job.now.pieces) = grind (arith, common_steps) in
    let e = c.from_residual.ensures in
    memory_answers (BeginsCommit g.B.Build.rules c.args.client c.args.contents.now) c.from_residual.result c.args.contents.now c.args.contents.now e.0 e.1
    (begins g.B.Build.rules c.args.contents.now c.args.client c.in-Some.job.now free held ready) refl

pub returns-in_err-put_in_order-in-Ok-clause-answers : goal.returns-in_err-put_in_order-in-Ok-clause-answers
returns-in_err-put_in_order-in-Ok-clause-answers g c =
    let told : IsTrue c.is_free.result = grind (arith, common_steps) in
    let free : IsFree c.args.contents.now.core.phase = c.is_free.ensures.0 told in
    let held : table.get c.args.contents.now.jobs c.args.client.number ≡ Some c.in-Some.job.now = sym c.in-Some.ensures in
    let ready : IsTrue (all_there c.in-Some.job.now.pieces) = grind (arith, common_steps) in
    let e = c.from_residual-in_err-put_in_order-in-Ok.ensures in
    memory_answers (BeginsCommit g.B.Build.rules c.args.client c.args.contents.now) c.from_residual-in_err-put_in_order-in-Ok.result c.args.contents.now _ e.0 e.1
    (begins g.B.Build.rules c.args.contents.now c.args.client c.in-Some.job.now free held ready) (ap (λ core. record c.args.contents.now { core = core }) c.in_err-put_in_order-in-Ok.ensures.leaves)
