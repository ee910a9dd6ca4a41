-- The part that is being read begins before the next byte.
use Rattle.std.proofs.Common.{◌≤◌}
use Rattle.cc_spool.proofs.framing.fault_lines.Given as goal

abbrev pub invariant-loop-i : goal.invariant-loop-i
invariant-loop-i l = l.begin ≤ l.i
