use Rattle.std.proofs.Common.{◌≡◌, ◌≤◌, false, drop}
use Rattle.cc_wide_check.specs.internal.Sections.{default_number}
use Rattle.cc_wide_check.specs.internal.Views.{wide_of}
use Rattle.cc_wide_check.proofs.choices.default_number.Given as goal

abbrev pub invariant-loop-s : goal.invariant-loop-s
invariant-loop-s l =
    record { same : default_number l.sections l.label (wide_of (drop l.s-index l.all)) ≡ default_number 0 false (wide_of l.all); few : l.sections ≤ l.s-index }
