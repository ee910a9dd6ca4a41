-- The rest passes if and only if all do.
use Rattle.std.proofs.Common.{◌≡◌, drop}
use Rattle.cc_wide_check.specs.internal.Labels.{all_keep_labels}
use Rattle.cc_wide_check.specs.internal.Views.{wide_of}
use Rattle.cc_wide_check.proofs.labels.+labels.Given as goal

abbrev pub invariant-all_keep_labels-loop-s : goal.invariant-all_keep_labels-loop-s
invariant-all_keep_labels-loop-s l = all_keep_labels (wide_of (drop l.s-index l.all)) ≡ all_keep_labels (wide_of l.all)
