use Rattle.std.proofs.Common.{◌≡◌, drop}
use Rattle.cc_emit.specs.Frames.{calls}
use Rattle.cc_emit.proofs.frame.calls.Given as goal

abbrev pub invariant-loop-step : goal.invariant-loop-step
invariant-loop-step l = calls (drop l.step-index l.code) ≡ calls l.code
