use Rattle.std.proofs.Common.{◌≡◌, ◌-◌}
use Rattle.cc_ltl.specs.internal.Reading.{times, block_in}
use Rattle.cc_ltl.proofs.Times.{with_prefix}
use Rattle.cc_ltl.proofs.cursor.Cursor.block_list.Given as goal

abbrev pub invariant-loop : goal.invariant-loop
invariant-loop l = with_prefix l.found.items (times block_in (l.count - l.counter) l.self) ≡ times block_in l.count l.fn.self
