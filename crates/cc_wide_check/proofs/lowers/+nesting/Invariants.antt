-- The rest passes if and only if all do.
use Rattle.std.proofs.Common.{◌≡◌, drop}
use Rattle.cc_wide_check.specs.internal.Lowers.{are_shallow}
use Rattle.cc_wide_check.specs.internal.Views.{wide_of}
use Rattle.cc_wide_check.proofs.lowers.+nesting.Given as goal

abbrev pub invariant-are_shallow-loop-s : goal.invariant-are_shallow-loop-s
invariant-are_shallow-loop-s l = are_shallow l.limit (wide_of (drop l.s-index l.all)) ≡ are_shallow l.limit (wide_of l.all)
