-- Even if memory runs out, the disk has not crashed and the client has no job, so the event has a step.
use Rattle.std.proofs.Common.{◌≡◌, None, refl, ap, arith}
use Rattle.std.specs.Prelude.{IsTrue}
use Rattle.std.proofs.lemmas.Grind.{common_steps}
use Rattle.std.specs.FinMap as table
use Rattle.cc_core.specs.Step.{IsUp, Submits}
use Rattle.cc_core.proofs.Possible.{submits, memory_answers}
use Rattle.cc_core.proofs.events.submit.Goals as goal

pub returns-in_err-job : goal.returns-in_err-job
returns-in_err-job g c =
    let told : IsTrue c.is_up.result = grind (arith, common_steps) in
    let up : IsUp c.args.contents.now.core.phase = c.is_up.ensures.0 told in
    let free : table.get c.args.contents.now.jobs c.args.client.number ≡ None = grind (arith, common_steps) in
    let e = c.from_residual.ensures in
    memory_answers (Submits g.B.Build.rules c.args.client c.args.call c.args.request c.args.contents.now) c.from_residual.result c.args.contents.now c.args.contents.now e.0 e.1
    (submits g.B.Build.rules g.met.B.Build.planned c.args.contents.now c.args.client c.args.call c.args.request up free) refl

pub returns-in_err-put : goal.returns-in_err-put
returns-in_err-put g c =
    let told : IsTrue c.is_up.result = grind (arith, common_steps) in
    let up : IsUp c.args.contents.now.core.phase = c.is_up.ensures.0 told in
    let free : table.get c.args.contents.now.jobs c.args.client.number ≡ None = grind (arith, common_steps) in
    let e = c.from_residual-in_err-put.ensures in
    memory_answers (Submits g.B.Build.rules c.args.client c.args.call c.args.request c.args.contents.now) c.from_residual-in_err-put.result c.args.contents.now _ e.0 e.1
    (submits g.B.Build.rules g.met.B.Build.planned c.args.contents.now c.args.client c.args.call c.args.request up free) (ap (λ jobs. record c.args.contents.now { jobs = jobs }) c.in_err-put.ensures.err)
