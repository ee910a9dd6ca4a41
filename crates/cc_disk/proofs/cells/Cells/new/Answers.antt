use Rattle.std.proofs.Common.{arith}
use Rattle.std.proofs.lemmas.Grind.{common_steps}
use Rattle.cc_disk.proofs.Zipped.{cells-new}
use Rattle.cc_disk.proofs.cells.Cells.new.Goals as goal

pub returns : goal.returns
returns c = grind (arith, common_steps, cells-new c.args.size)
