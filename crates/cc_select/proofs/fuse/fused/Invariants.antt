-- The steps so far, followed by what the others become, are all the steps; there is room for them.
use Rattle.std.proofs.Common.{◌-◌, ◌≤◌, length, vec_len}
use Rattle.std.specs.Vec.{vec_capacity}
use Rattle.cc_select.specs.Table.{Table}
use Rattle.cc_select.specs.internal.Sets.{table_of, SameTable, AreBehind}
use Rattle.cc_select.proofs.Passing.{Joined}
use Rattle.cc_select.proofs.fuse.fused.Given as goal

abbrev pub invariant-loop-at : goal.invariant-loop-at
invariant-loop-at l = record {
  joined : (t : Table) → SameTable (table_of l.table) t → AreBehind t l.steps l.behind → Joined t l.steps l.at l.found.items;
  many : vec_len l.found ≤ l.at;
  room : length l.steps ≤ vec_capacity l.found;
}

abbrev pub decreases-loop-at : goal.decreases-loop-at
decreases-loop-at l = length l.steps - l.at
