-- The steps from number `at` on fit, and what is live after each is noted.
use Rattle.cc_select.proofs.Sweeping.{Looking}
use Rattle.cc_select.proofs.table.fits.Given as goal

abbrev pub invariant-loop-at : goal.invariant-loop-at
invariant-loop-at l = Looking l.steps l.table l.at l.live l.behind.items

abbrev pub decreases-loop-at : goal.decreases-loop-at
decreases-loop-at l = l.at
