use Rattle.std.proofs.Common.{arith, true}
use Rattle.std.proofs.lemmas.Grind.{common_steps}
use Rattle.cc_disk.proofs.Zipped.{cells-alike}
use Rattle.cc_disk.proofs.cells.Cells.of_bytes.Goals as goal

pub returns : goal.returns
returns c = grind (arith, common_steps, cells-alike c.args.bytes.now true)
