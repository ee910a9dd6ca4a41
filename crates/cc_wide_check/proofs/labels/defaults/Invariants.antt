use Rattle.std.proofs.Common.{◌≡◌, ◌+◌, ◌≤◌, length, drop}
use Rattle.cc_wide_text.specs.Rules.{defaults}
use Rattle.cc_wide_check.specs.internal.Labels.{labels_in}
use Rattle.cc_wide_check.specs.internal.Views.{wide_of}
use Rattle.cc_wide_check.proofs.labels.defaults.Given as goal

abbrev pub invariant-loop-s : goal.invariant-loop-s
invariant-loop-s l =
    record { same : l.count + length (defaults (labels_in (wide_of (drop l.s-index l.all)))) ≡ length (defaults (labels_in (wide_of l.all))); few : l.count ≤ l.s-index }
