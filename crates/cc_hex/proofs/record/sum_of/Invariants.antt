-- The total is that of the bytes so far.
use Rattle.std.proofs.Common.{◌≡◌, ◌%◌, take, sum}
use Rattle.cc_hex.proofs.record.sum_of.Given as goal

abbrev pub invariant-loop-byte : goal.invariant-loop-byte
invariant-loop-byte l = l.total ≡ sum (take l.byte-index l.bytes) % 256
