-- The bytes so far have been read.
use Rattle.std.proofs.Common.{◌≡◌, take}
use Rattle.cc_spool.specs.Answer.{read_bytes}
use Rattle.cc_spool.proofs.lines.Lines.read_all.Given as goal

abbrev pub invariant-loop-byte : goal.invariant-loop-byte
invariant-loop-byte l = l.self ≡ read_bytes l.initial.self (take l.byte-index l.bytes)
