-- The run so far, followed by the turn of this event, is a run.
use Rattle.cc_core.proofs.Possible.{where_done}
use Rattle.cc_core.proofs.Runs.{Run-push}
use Rattle.cc_core.proofs.state.run_events.Goals as goal

pub loop-event-preserved : goal.loop-event-preserved
loop-event-preserved g c =
    Run-push g.B.Build.rules g.B.Build.keeps c.args.state c.loop-event.yielded c.loop-event.state c.in-Some.event c.turn.new.self c.loop-event.invariant
    (where_done c.turn.result c.turn.ensures c.if-is_err.ensures.value)
