-- The steps from number `at` on are noted.
use Rattle.cc_emit.proofs.Looping.{Noted}
use Rattle.cc_emit.proofs.loops.last_leads.Given as goal

abbrev pub invariant-loop-at : goal.invariant-loop-at
invariant-loop-at l = Noted l.code l.count l.at l.last.items

abbrev pub decreases-loop-at : goal.decreases-loop-at
decreases-loop-at l = l.at
