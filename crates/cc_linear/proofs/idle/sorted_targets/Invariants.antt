use Rattle.std.proofs.Common.{◌≡◌, ◌++◌, drop}
use Rattle.cc_linear.specs.Targets.{targets}
use Rattle.cc_linear.proofs.idle.sorted_targets.Given as goal

-- the targets so far, followed by those of the rest, are all the targets
abbrev pub invariant-loop-item : goal.invariant-loop-item
invariant-loop-item l = l.led.items ++ targets (drop l.item-index l.items) ≡ targets l.items
