-- The rest passes if and only if all do.
use Rattle.std.proofs.Common.{◌≡◌, drop}
use Rattle.cc_wide_check.specs.internal.Labels.{all_constant, labels_in}
use Rattle.cc_wide_check.specs.internal.Views.{wide_of}
use Rattle.cc_wide_check.proofs.labels.all_constant.Given as goal

abbrev pub invariant-loop-s : goal.invariant-loop-s
invariant-loop-s l = all_constant (labels_in (wide_of (drop l.s-index l.all))) ≡ all_constant (labels_in (wide_of l.all))
