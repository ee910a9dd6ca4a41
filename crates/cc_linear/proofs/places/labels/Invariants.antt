use Rattle.std.proofs.Common.{◌≡◌, ◌++◌, drop}
use Rattle.cc_linear.specs.internal.Places.{labels_of}
use Rattle.cc_linear.proofs.places.labels.Given as goal

-- the labels so far, followed by those of the rest, are all the labels
abbrev pub invariant-loop-block : goal.invariant-loop-block
invariant-loop-block l = l.labels.items ++ labels_of (drop l.block-index l.blocks) ≡ labels_of l.blocks
