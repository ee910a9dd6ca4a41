use Rattle.std.proofs.Common.{◌≡◌, ◌+◌, false, drop}
use Rattle.cc_wide_check.specs.internal.Groups.{cut_at}
use Rattle.cc_wide_check.specs.internal.Views.{wide_of}
use Rattle.cc_wide_check.proofs.groups.cut.Given as goal

abbrev pub invariant-loop-i : goal.invariant-loop-i
invariant-loop-i l = l.i + cut_at l.left l.label (wide_of (drop l.i l.all)) ≡ cut_at l.half false (wide_of l.all)
