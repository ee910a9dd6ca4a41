-- The list has the labels of the dead nodes so far.
use Rattle.std.proofs.Common.{◌≡◌, take}
use Rattle.cc_live.specs.Rows.{rows_at}
use Rattle.cc_live.specs.internal.Dead.{dead_labels}
use Rattle.cc_live.proofs.dead.dead_labels.Given as goal

abbrev pub invariant-loop-at : goal.invariant-loop-at
invariant-loop-at l = l.labels.items ≡ dead_labels (rows_at l.rtl.nodes l.live) (take l.at l.rtl.nodes)
