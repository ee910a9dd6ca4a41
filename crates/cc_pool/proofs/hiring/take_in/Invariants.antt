use Rattle.std.proofs.Common.{◌≡◌, ◌+◌, ◌++◌, length}
use Rattle.cc_pool.specs.declared.rule.Role.TheVariants.{Owner}
use Rattle.cc_pool.specs.Shared.{sent_by}
use Rattle.cc_pool.proofs.hiring.take_in.Given as goal

abbrev pub invariant-loop-pass : goal.invariant-loop-pass
invariant-loop-pass g l = record {
  role : l.seat.role ≡ Owner;
  splits : l.seat.splits ≡ l.fn.seat.splits;
  joins : l.seat.joins ≡ l.fn.seat.joins + length l.yielded;
  sent : l.seat.sent ≡ l.fn.seat.sent ++ sent_by l.yielded;
}
