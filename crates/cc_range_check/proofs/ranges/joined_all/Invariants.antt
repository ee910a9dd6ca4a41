use Rattle.std.proofs.Common.{◌≡◌, ◌++◌, drop}
use Rattle.cc_range_table.specs.Inductive.{joined_all}
use Rattle.cc_range_check.proofs.ranges.joined_all.Given as goal

-- the joins so far, followed by those of the rest, are all joins
abbrev pub invariant-loop-i : goal.invariant-loop-i
invariant-loop-i l = l.all.items ++ joined_all (drop l.i l.first) (drop l.i l.second) ≡ joined_all l.first l.second
