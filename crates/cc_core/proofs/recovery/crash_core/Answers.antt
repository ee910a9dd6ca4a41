-- A crash always has a step.
use Rattle.std.proofs.Common.{ap}
use Rattle.cc_core.specs.Step.{Crashes}
use Rattle.cc_core.proofs.Possible.{crashes, memory_answers}
use Rattle.cc_core.proofs.recovery.crash_core.Goals as goal

pub returns-in_err-crash : goal.returns-in_err-crash
returns-in_err-crash c =
    let e = c.from_residual.ensures in
    memory_answers (Crashes c.args.choice.now c.args.core.now) c.from_residual.result c.args.core.now _ e.0 e.1 (crashes c.args.choice.now c.args.core.now) (ap (λ store. record c.args.core.now { store = store }) c.in_err-crash.ensures.err)
