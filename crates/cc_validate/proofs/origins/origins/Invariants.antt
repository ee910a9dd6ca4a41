-- The table is that of the moves so far.
use Rattle.std.proofs.Common.{take}
use Rattle.cc_validate.specs.internal.Origins.{AreOrigins}
use Rattle.cc_validate.proofs.origins.origins.Given as goal

abbrev pub invariant-loop-m : goal.invariant-loop-m
invariant-loop-m l = AreOrigins (take l.m-index l.moves) l.origins.items
