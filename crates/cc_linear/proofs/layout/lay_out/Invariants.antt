use Rattle.std.proofs.Common.{◌≡◌, ◌++◌, drop}
use Rattle.cc_linear.specs.internal.Layout.{leads, laid}
use Rattle.cc_linear.specs.internal.Places.{end_in, labels_at}
use Rattle.cc_linear.proofs.layout.lay_out.Given as goal

-- the items so far, followed by those of the rest, are the whole list
abbrev pub invariant-loop-i : goal.invariant-loop-i
invariant-loop-i l =
    l.items.items ++ laid l.blocks (end_in l.labels l.ends) (labels_at l.labels (drop l.i l.order))
    ≡ leads (end_in l.labels l.ends l.entry) (labels_at l.labels l.order) (laid l.blocks (end_in l.labels l.ends) (labels_at l.labels l.order))
