-- The worker is idle and the piece waits, as the tests before this point have shown.
use Rattle.std.proofs.Common.{◌≡◌, sym, ap, ◌∙◌, Some, None, arith}
use Rattle.std.specs.Prelude.{slice_get}
use Rattle.std.proofs.lemmas.Grind.{common_steps}
use Rattle.std.specs.FinMap as table
use Rattle.cc_core.specs.declared.job.Progress.TheVariants.{Waiting}
use Rattle.cc_core.specs.Step.{Takes}
use Rattle.cc_core.proofs.Possible.{takes, memory_answers}
use Rattle.cc_core.proofs.events.take.Goals as goal

pub returns-in_err-put : goal.returns-in_err-put
returns-in_err-put g c =
    let idle : table.get c.args.contents.now.workers c.args.worker.number ≡ None = grind (arith, common_steps) in
    let held : table.get c.args.contents.now.jobs c.args.client.number ≡ Some c.in-Some.job.now = sym c.in-Some.ensures in
    let waits : slice_get c.in-Some.job.now.pieces c.args.part.index ≡ Some Waiting = sym c.in-Some-Waiting.ensures ∙ ap Some c.in-Some-Waiting.field-0-is in
    let e = c.from_residual.ensures in
    memory_answers (Takes c.args.worker c.args.client c.args.part c.args.contents.now) c.from_residual.result c.args.contents.now _ e.0 e.1
    (takes c.args.contents.now c.args.worker c.args.client c.args.part c.in-Some.job.now idle held waits) (ap (λ workers. record c.args.contents.now { workers = workers }) c.in_err-put.ensures.err)
