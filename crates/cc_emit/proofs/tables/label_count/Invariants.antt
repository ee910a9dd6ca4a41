use Rattle.cc_emit.proofs.Tabling.{Counted}
use Rattle.cc_emit.proofs.tables.label_count.Given as goal

abbrev pub invariant-loop-step : goal.invariant-loop-step
invariant-loop-step l = Counted l.code l.step-index l.count
