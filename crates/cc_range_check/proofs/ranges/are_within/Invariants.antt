use Rattle.std.proofs.Common.{◌≡◌, drop}
use Rattle.std.specs.Prelude.{◌&&◌}
use Rattle.cc_range_table.specs.Inductive.{are_within}
use Rattle.cc_range_check.proofs.ranges.are_within.Given as goal

-- the lists so far are within each other, and so is the rest
abbrev pub invariant-loop-i : goal.invariant-loop-i
invariant-loop-i l = (l.within && are_within (drop l.i l.first) (drop l.i l.second)) ≡ are_within l.first l.second
