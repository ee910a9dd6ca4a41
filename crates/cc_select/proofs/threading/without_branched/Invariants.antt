-- The table has no tests for the labels to which branches of the items so far lead.
use Rattle.cc_select.specs.internal.Sets.{tests_in}
use Rattle.cc_select.proofs.Gathering.{Crossed}
use Rattle.cc_select.proofs.threading.without_branched.Given as goal

abbrev pub invariant-loop-item : goal.invariant-loop-item
invariant-loop-item l = Crossed l.items l.item-index (tests_in l.initial.found) (tests_in l.found)
