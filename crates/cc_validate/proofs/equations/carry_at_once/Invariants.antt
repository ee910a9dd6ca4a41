-- The bits of the rows so far are in the new table.
use Rattle.std.proofs.Common.{◌<◌, IsTrue}
use Rattle.cc_bits.specs.Rows.{has}
use Rattle.cc_validate.specs.internal.Origins.{AreSent}
use Rattle.cc_validate.proofs.equations.carry_at_once.Given as goal

abbrev pub invariant-loop-r : goal.invariant-loop-r
invariant-loop-r l = AreSent (λ i j. (i < l.r) × IsTrue (has l.bits i j)) l.origins.items l.made
