-- The words so far, followed by those of the events that are left, are those of all events.
use Rattle.std.proofs.Common.{◌≡◌, ◌++◌, drop}
use Rattle.cc_steps.specs.Observed.{exchanged}
use Rattle.cc_steps.proofs.observe.with_words.Given as goal

abbrev pub invariant-loop-event : goal.invariant-loop-event
invariant-loop-event l = l.all.items ++ exchanged (drop l.event-index l.events) l.rest ≡ exchanged l.events l.input
