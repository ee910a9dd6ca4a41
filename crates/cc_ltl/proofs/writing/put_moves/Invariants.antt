use Rattle.std.proofs.Common.{◌≡◌, ◌++◌, length, take}
use Rattle.std.specs.List.{flat_map}
use Rattle.cc_ltl.specs.Bytes.{half_bytes, move_bytes}
use Rattle.cc_ltl.proofs.writing.put_moves.Given as goal

abbrev pub invariant-loop-each : goal.invariant-loop-each
invariant-loop-each l = l.bytes.items ≡ l.fn.bytes.items ++ (half_bytes (length l.moves) ++ flat_map move_bytes (take l.each-index l.moves))
