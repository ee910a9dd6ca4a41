use Rattle.std.proofs.Common.{◌≡◌, ◌+◌, drop}
use Rattle.cc_cminor_language.specs.Code.{expressions_of}
use Rattle.cc_range_check.specs.Places.{operations_of_all}
use Rattle.cc_range_check.proofs.counting.after_expressions.Given as goal

abbrev pub invariant-loop-e : goal.invariant-loop-e
invariant-loop-e l = l.next + operations_of_all (expressions_of (drop l.e-index l.es)) ≡ l.first + operations_of_all (expressions_of l.es)
