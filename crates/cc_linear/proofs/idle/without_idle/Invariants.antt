use Rattle.std.proofs.Common.{◌≡◌, ◌++◌, drop}
use Rattle.cc_linear.specs.Targets.{targets}
use Rattle.cc_linear.specs.internal.Idle.{kept}
use Rattle.cc_linear.proofs.idle.without_idle.Given as goal

-- the items so far, followed by what is kept of the rest, are all that is kept
abbrev pub invariant-loop-item : goal.invariant-loop-item
invariant-loop-item l = l.kept.items ++ kept (targets l.items) (drop l.item-index l.items) ≡ kept (targets l.items) l.items
