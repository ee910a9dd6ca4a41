use Rattle.std.proofs.Common.{◌≡◌, ◌*◌, ◌++◌, drop}
use Rattle.cc_link.specs.Packed.{packed_bytes}
use Rattle.cc_link.proofs.globals.add_packed.Given as goal

-- the words so far, followed by those of the bytes that are left, are all the words
abbrev pub invariant-loop-number : goal.invariant-loop-number
invariant-loop-number l = l.words.items ++ packed_bytes (drop (4 * l.number) l.bytes) ≡ l.initial.words.items ++ packed_bytes l.bytes
