use Rattle.std.proofs.Common.{◌≡◌, ◌+◌, ◌≤◌, drop}
use Rattle.cc_wide.specs.Lowering.{count_in}
use Rattle.cc_wide_text.specs.Rules.{case_words}
use Rattle.cc_wide_check.specs.internal.Labels.{labels_in}
use Rattle.cc_wide_check.specs.internal.Views.{wide_of}
use Rattle.cc_wide_check.proofs.choices.count_in.Given as goal

abbrev pub invariant-loop-s : goal.invariant-loop-s
invariant-loop-s l =
    record {
      same : l.count + count_in l.low l.high (case_words (labels_in (wide_of (drop l.s-index l.all)))) ≡ count_in l.low l.high (case_words (labels_in (wide_of l.all)));
      few : l.count ≤ l.s-index;
    }
