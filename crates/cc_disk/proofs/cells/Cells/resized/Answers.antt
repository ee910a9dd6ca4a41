use Rattle.std.proofs.Common.{arith, false}
use Rattle.std.proofs.lemmas.Grind.{common_steps}
use Rattle.cc_disk.proofs.Zipped.{cells-alike, bytes_of-cells}
use Rattle.cc_disk.proofs.cells.Cells.resized.Goals as goal

pub returns : goal.returns
returns c = grind (arith, common_steps, cells-alike c.resize.new.self.items false, bytes_of-cells c.self.inside.bytes.items c.self.inside.settled.items c.self.invariant)
