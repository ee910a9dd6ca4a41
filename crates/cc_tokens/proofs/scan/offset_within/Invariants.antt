use Rattle.std.proofs.Common.{◌≡◌, ◌+◌, ◌-◌, drop}
use Rattle.cc_tokens.specs.internal.Scan.{begins, offset_within}
use Rattle.cc_tokens.proofs.scan.offset_within.Given as goal

abbrev pub invariant-loop-i : goal.invariant-loop-i
invariant-loop-i l = l.i + offset_within (begins l.mark) (l.n - l.i) (drop l.i l.bytes) ≡ offset_within (begins l.mark) l.n l.bytes
