-- The events so far have led from the state at the beginning to this one.
use Rattle.cc_core.specs.Run.{Run}
use Rattle.cc_core.proofs.state.run_events.Given as goal

abbrev pub invariant-loop-event : goal.invariant-loop-event
invariant-loop-event g l = Run g.B.Build.rules g.B.Build.keeps l.fn.state l.yielded l.state
