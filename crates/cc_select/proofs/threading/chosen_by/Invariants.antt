-- The steps so far, followed by those of the items to come, are all the steps.
use Rattle.cc_select.specs.internal.Sets.{known_in, tests_in}
use Rattle.cc_select.proofs.Gathering.{Threaded}
use Rattle.cc_select.proofs.threading.chosen_by.Given as goal

abbrev pub invariant-loop-item : goal.invariant-loop-item
invariant-loop-item l = Threaded (tests_in l.tests) l.items l.item-index (known_in l.known) l.gone l.steps.items
