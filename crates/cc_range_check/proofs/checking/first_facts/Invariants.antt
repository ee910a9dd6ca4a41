use Rattle.std.proofs.Common.{◌≡◌, ◌++◌, ◌-◌}
use Rattle.std.specs.Prelude.{replicate}
use Rattle.cc_range.specs.Range.{only}
use Rattle.cc_range_check.proofs.checking.first_facts.Given as goal

abbrev pub invariant-loop : goal.invariant-loop
invariant-loop l = l.variables.items ++ replicate (l.row.locals - l.counter) (only 0) ≡ l.row.parameters.items ++ replicate l.row.locals (only 0)
