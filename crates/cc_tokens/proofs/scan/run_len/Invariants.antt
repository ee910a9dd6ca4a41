use Rattle.std.proofs.Common.{length, ◌-◌, ◌≡◌, ◌+◌, ◌≤◌, drop, get_or}
use Rattle.cc_tokens.specs.internal.Scan.{goes_on, run_length, run_of}
use Rattle.cc_tokens.proofs.scan.run_len.Given as goal

abbrev pub invariant-loop-n : goal.invariant-loop-n
invariant-loop-n l = record {
  started : 1 ≤ l.n;
  in_range : l.n ≤ length l.bytes;
  counted : l.n + run_length (goes_on l.run) (get_or l.bytes (l.n - 1) 0) (drop l.n l.bytes) ≡ run_of (goes_on l.run) l.bytes;
}

abbrev pub decreases-loop-n : goal.decreases-loop-n
decreases-loop-n l = length l.bytes - l.n
