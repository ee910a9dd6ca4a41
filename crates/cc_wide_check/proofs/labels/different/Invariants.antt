-- The rest passes if and only if all do.
use Rattle.std.proofs.Common.{◌≡◌, drop}
use Rattle.cc_wide_text.specs.Rules.{case_words}
use Rattle.cc_wide_check.specs.internal.Labels.{different, labels_in}
use Rattle.cc_wide_check.specs.internal.Views.{wide_of}
use Rattle.cc_wide_check.proofs.labels.different.Given as goal

abbrev pub invariant-loop-i : goal.invariant-loop-i
invariant-loop-i l = different (case_words (labels_in (wide_of (drop l.i l.all)))) ≡ different (case_words (labels_in (wide_of l.all)))
