use Rattle.std.proofs.Common.{◌≡◌, ◌++◌, length, take}
use Rattle.std.specs.List.{flat_map}
use Rattle.cc_ltl.specs.Bytes.{word_bytes, block_bytes}
use Rattle.cc_ltl.proofs.writing.write_ltl.Given as goal

abbrev pub invariant-loop-block : goal.invariant-loop-block
invariant-loop-block l = l.bytes.items ≡ word_bytes l.ltl.slots ++ (word_bytes l.ltl.entry ++ (word_bytes (length l.blocks) ++ flat_map block_bytes (take l.block-index l.blocks)))
