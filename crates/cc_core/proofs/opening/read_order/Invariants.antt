-- The bodies before this one were read, and their commands are in the order with their numbers.
use Rattle.std.proofs.Common.{drop}
use Rattle.cc_core.proofs.Beginnings.{IsReadTo}
use Rattle.cc_core.proofs.opening.read_order.Given as goal

abbrev pub invariant-loop-body : goal.invariant-loop-body
invariant-loop-body l = IsReadTo l.bodies (drop l.body-index l.bodies) l.order l.upcoming.value
