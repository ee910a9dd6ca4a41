use Rattle.std.proofs.Common.{arith}
use Rattle.std.proofs.lemmas.Grind.{common_steps}
use Rattle.cc_disk.proofs.Zipped.{cells-synced}
use Rattle.cc_disk.proofs.cells.Cells.settle.Goals as goal

pub returns : goal.returns
returns c = grind (arith, common_steps, cells-synced c.self.inside.bytes.items c.self.inside.settled.items c.self.invariant)
