use Rattle.std.proofs.Common.{◌≡◌, ◌+◌}
use Rattle.cc_pool.specs.declared.rule.Role.TheVariants.{Owner}
use Rattle.cc_pool.proofs.hiring.take_back.Given as goal

abbrev pub invariant-loop-i : goal.invariant-loop-i
invariant-loop-i g l = record {
  role : l.seat.role ≡ Owner;
  splits : l.seat.splits ≡ l.fn.seat.splits;
  joins : l.seat.joins ≡ l.fn.seat.joins + l._i;
  sent : l.seat.sent ≡ l.fn.seat.sent;
}
