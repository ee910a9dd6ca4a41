-- The sweeps that are left yield the table.
use Rattle.cc_select.specs.Table.{table}
use Rattle.cc_select.proofs.Sweeping.{Settling}
use Rattle.cc_select.proofs.table.settle.Given as goal

abbrev pub invariant-loop-left : goal.invariant-loop-left
invariant-loop-left l = Settling l.steps (table l.steps) l.left l.table l.behind.items

abbrev pub decreases-loop-left : goal.decreases-loop-left
decreases-loop-left l = l.left
