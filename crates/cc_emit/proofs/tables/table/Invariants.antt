-- The table covers the steps after this one.
use Rattle.cc_emit.proofs.Tabling.{Filled}
use Rattle.cc_emit.proofs.tables.table.Given as goal

abbrev pub invariant-loop-at : goal.invariant-loop-at
invariant-loop-at l = Filled l.frame l.first l.steps l.count l.at l.here l.behind l.labels.items

abbrev pub decreases-loop-at : goal.decreases-loop-at
decreases-loop-at l = l.at
