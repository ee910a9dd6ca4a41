-- No word so far is the one that is sought.
use Rattle.std.proofs.Common.{◌≡◌, drop}
use Rattle.cc_wide.specs.Lowering.{middle_from}
use Rattle.cc_wide_text.specs.Rules.{case_words}
use Rattle.cc_wide_check.specs.internal.Labels.{labels_in}
use Rattle.cc_wide_check.specs.internal.Views.{wide_of}
use Rattle.cc_wide_check.proofs.choices.middle_from.Given as goal

abbrev pub invariant-loop-s : goal.invariant-loop-s
invariant-loop-s l =
    middle_from l.low l.high l.below (case_words (labels_in (wide_of l.all))) (case_words (labels_in (wide_of (drop l.s-index l.all))))
    ≡ middle_from l.low l.high l.below (case_words (labels_in (wide_of l.all))) (case_words (labels_in (wide_of l.all)))
