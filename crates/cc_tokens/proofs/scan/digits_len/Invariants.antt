use Rattle.std.proofs.Common.{length, ◌-◌, ◌≡◌, ◌+◌, ◌≤◌, drop}
use Rattle.std.specs.List.{prefix_len}
use Rattle.cc_tokens.specs.Constant.{is_digit_of}
use Rattle.cc_tokens.proofs.scan.digits_len.Given as goal

abbrev pub invariant-loop-n : goal.invariant-loop-n
invariant-loop-n l = record {
  in_range : l.n ≤ length l.bytes;
  counted : l.n + prefix_len (is_digit_of l.base) (drop l.n l.bytes) ≡ prefix_len (is_digit_of l.base) l.bytes;
}

abbrev pub decreases-loop-n : goal.decreases-loop-n
decreases-loop-n l = length l.bytes - l.n
