use Rattle.std.proofs.Common.{◌≡◌, ◌≤◌, false, drop}
use Rattle.cc_wide_check.specs.internal.Groups.{counted}
use Rattle.cc_wide_check.specs.internal.Views.{wide_of}
use Rattle.cc_wide_check.proofs.groups.counted.Given as goal

abbrev pub invariant-loop-s : goal.invariant-loop-s
invariant-loop-s l =
    record { same : counted l.sections l.label (wide_of (drop l.s-index l.all)) ≡ counted 0 false (wide_of l.all); few : l.sections ≤ l.s-index }
