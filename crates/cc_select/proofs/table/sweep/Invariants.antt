-- The steps from number `at` on have been swept.
use Rattle.cc_select.proofs.Sweeping.{Sweeping}
use Rattle.cc_select.proofs.table.sweep.Given as goal

abbrev pub invariant-loop-at : goal.invariant-loop-at
invariant-loop-at l = Sweeping l.steps l.initial.table l.at l.live l.table

abbrev pub decreases-loop-at : goal.decreases-loop-at
decreases-loop-at l = l.at
