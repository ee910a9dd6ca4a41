-- The digits so far, with those of the bytes still to come, are all digits.
use Rattle.std.proofs.Common.{◌≡◌, ◌++◌, drop}
use Rattle.std.specs.List.{flat_map}
use Rattle.cc_hex.specs.Layout.{two_digits}
use Rattle.cc_hex.proofs.record.push_bytes.Given as goal

abbrev pub invariant-loop-byte : goal.invariant-loop-byte
invariant-loop-byte l = l.text.items ++ flat_map two_digits (drop l.byte-index l.bytes) ≡ l.initial.text.items ++ flat_map two_digits l.bytes
