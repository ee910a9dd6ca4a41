-- The items so far, followed by those still to be emitted, are all the items.
use Rattle.cc_emit.specs.internal.Bases.{base_in}
use Rattle.cc_emit.proofs.Bridging.{Emitting}
use Rattle.cc_emit.proofs.emission.put_code.Given as goal

abbrev pub invariant-loop-step : goal.invariant-loop-step
invariant-loop-step l = Emitting (base_in l.bases) l.frame l.steps l.step-index l.here l.items.items
