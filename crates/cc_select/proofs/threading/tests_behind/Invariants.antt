-- The table has the tests after the labels of the items from number `at` on.
use Rattle.cc_select.specs.internal.Sets.{tests_in}
use Rattle.cc_select.proofs.Gathering.{Gathered}
use Rattle.cc_select.proofs.threading.tests_behind.Given as goal

abbrev pub invariant-loop-at : goal.invariant-loop-at
invariant-loop-at l = Gathered l.items l.at (tests_in l.found)

abbrev pub decreases-loop-at : goal.decreases-loop-at
decreases-loop-at l = l.at
