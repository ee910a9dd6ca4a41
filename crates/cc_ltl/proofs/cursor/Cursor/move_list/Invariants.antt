use Rattle.std.proofs.Common.{◌≡◌, ◌-◌, length}
use Rattle.cc_ltl.specs.internal.Reading.{times, move_in}
use Rattle.cc_ltl.proofs.Times.{with_prefix}
use Rattle.cc_ltl.proofs.cursor.Cursor.move_list.Given as goal

abbrev pub invariant-loop : goal.invariant-loop
invariant-loop l = record {
  read : with_prefix l.moves.items (times move_in (l.count - l.counter) l.self) ≡ times move_in l.count l.fn.self;
  counted : length l.moves.items ≡ l.counter;
}
