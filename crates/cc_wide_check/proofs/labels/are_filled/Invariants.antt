use Rattle.std.proofs.Common.{◌≡◌, false, drop}
use Rattle.cc_wide_check.specs.internal.Labels.{are_filled}
use Rattle.cc_wide_check.specs.internal.Views.{wide_of}
use Rattle.cc_wide_check.proofs.labels.are_filled.Given as goal

abbrev pub invariant-loop-s : goal.invariant-loop-s
invariant-loop-s l = are_filled l.label (wide_of (drop l.s-index l.all)) ≡ are_filled false (wide_of l.all)
