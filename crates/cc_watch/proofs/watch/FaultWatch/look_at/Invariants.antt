-- The inner writer is the same.
use Rattle.std.proofs.Common.{◌≡◌}
use Rattle.cc_watch.proofs.watch.FaultWatch.look_at.Given as goal

abbrev pub invariant-loop-byte : goal.invariant-loop-byte
invariant-loop-byte g l = l.self.writer ≡ l.initial.self.writer
