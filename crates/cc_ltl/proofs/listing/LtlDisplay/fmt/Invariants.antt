use Rattle.std.proofs.Common.{◌++◌, take}
use Rattle.std.specs.Prelude.{codes}
use Rattle.std.specs.List.{flat_map}
use Rattle.std.specs.Fmt.{HasWritten, IsPlainFormatter, decimal}
use Rattle.cc_ltl.specs.declared.block.Block.{Block}
use Rattle.cc_ltl.specs.Listing.{block_text}
use Rattle.cc_ltl.proofs.listing.LtlDisplay.fmt.Given as goal

abbrev pub invariant-loop-block : goal.invariant-loop-block
invariant-loop-block g l =
    IsPlainFormatter l.fn.f → HasWritten g.W.Write.write_str_gives l.fn.f
    (codes "slots " ++ decimal l.self.slots ++ codes ", entry " ++ decimal l.self.entry ++ codes "\n" ++ flat_map (λ (block : Block). block_text block ++ codes "\n") (take l.block-index l.self.blocks)) l.f
