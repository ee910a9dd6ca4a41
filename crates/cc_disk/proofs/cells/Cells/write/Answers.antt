use Rattle.std.proofs.Common.{arith}
use Rattle.std.proofs.lemmas.Grind.{common_steps}
use Rattle.cc_disk.proofs.Zipped.{length-cells, cells-written}
use Rattle.cc_disk.proofs.cells.Cells.write.Goals as goal

pub put_part-requires : goal.put_part-requires
put_part-requires c = grind (arith, common_steps, length-cells c.self.inside.bytes.items c.self.inside.settled.items c.self.invariant)

pub clear_part-requires : goal.clear_part-requires
clear_part-requires c = grind (arith, common_steps, length-cells c.self.inside.bytes.items c.self.inside.settled.items c.self.invariant)

pub returns : goal.returns
returns c = grind (arith, common_steps, length-cells c.self.inside.bytes.items c.self.inside.settled.items c.self.invariant, cells-written c.self.inside.bytes.items c.self.inside.settled.items c.args.offset c.args.bytes.now c.self.invariant)
