use Rattle.std.proofs.Common.{◌≡◌, drop}
use Rattle.std.specs.Prelude.{◌&&◌}
use Rattle.cc_range_table.specs.Inductive.{changes_within}
use Rattle.cc_range_check.proofs.ranges.changes_within.Given as goal

abbrev pub invariant-loop-i : goal.invariant-loop-i
invariant-loop-i l = (l.within && changes_within (drop l.i l.first) (drop l.i l.second)) ≡ changes_within l.first l.second
