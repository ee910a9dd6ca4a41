use Rattle.std.proofs.Common.{◌≡◌, ◌+◌, drop}
use Rattle.cc_cminor_language.specs.Code.{in_sequence}
use Rattle.cc_cminor_language.specs.Statements.{statements_of}
use Rattle.cc_range_table.specs.Inductive.{places}
use Rattle.cc_range_check.specs.Places.{operations_in}
use Rattle.cc_range_check.proofs.counting.+counting.Given as goal

-- the numbers so far and what the rest has are the numbers after all
abbrev pub invariant-after_all-loop-s : goal.invariant-after_all-loop-s
invariant-after_all-loop-s l = record {
  place : l.next.place + places (in_sequence (statements_of (drop l.s-index l.all))) ≡ l.fn.first.place + places (in_sequence (statements_of l.all));
  operation : l.next.operation + operations_in (in_sequence (statements_of (drop l.s-index l.all))) ≡ l.fn.first.operation + operations_in (in_sequence (statements_of l.all));
}
