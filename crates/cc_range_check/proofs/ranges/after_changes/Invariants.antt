use Rattle.std.proofs.Common.{◌≡◌, ◌++◌, drop}
use Rattle.cc_range_table.specs.Inductive.{after_changes}
use Rattle.cc_range_check.proofs.ranges.after_changes.Given as goal

abbrev pub invariant-loop-i : goal.invariant-loop-i
invariant-loop-i l = l.all.items ++ after_changes (drop l.i l.writes) (drop l.i l.before) (drop l.i l.table) ≡ after_changes l.writes l.before l.table
