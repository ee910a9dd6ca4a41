use Rattle.std.proofs.Common.{◌≡◌, ◌-◌}
use Rattle.std.specs.Prelude.{◌&&◌, replicate}
use Rattle.cc_range_check.specs.Checking.{each_in}
use Rattle.cc_range_check.proofs.initial.zeros_in.Given as goal

abbrev pub invariant-loop : goal.invariant-loop
invariant-loop l = (l.within && each_in l.range (replicate (l.count - l.counter) 0)) ≡ each_in l.range (replicate l.count 0)
