use Rattle.std.proofs.Common.{arith}
use Rattle.std.proofs.lemmas.Grind.{common_steps}
use Rattle.cc_disk.proofs.Zipped.{length-cells, bytes_of-cells}
use Rattle.cc_disk.proofs.cells.Cells.read.Goals as goal

pub copy_part-requires : goal.copy_part-requires
copy_part-requires c = grind (arith, common_steps, length-cells c.self.inside.bytes.items c.self.inside.settled.items c.self.invariant)

pub returns : goal.returns
returns c = grind (arith, common_steps, bytes_of-cells c.self.inside.bytes.items c.self.inside.settled.items c.self.invariant)
