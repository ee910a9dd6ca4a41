-- The copy has the commands of the order that come before this one.
use Rattle.std.proofs.Common.{◌≡◌, take}
use Rattle.cc_core.proofs.opening.again.Given as goal

abbrev pub invariant-loop-numbered : goal.invariant-loop-numbered
invariant-loop-numbered l = l.copy ≡ take l.numbered-index l.order
