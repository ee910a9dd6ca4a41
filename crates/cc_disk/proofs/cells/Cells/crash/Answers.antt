use Rattle.std.proofs.Common.{arith, true}
use Rattle.std.proofs.lemmas.Grind.{common_steps}
use Rattle.cc_disk.proofs.Zipped.{cells-alike, length-left}
use Rattle.cc_disk.proofs.cells.Cells.crash.Goals as goal

pub invariant_of-result : goal.invariant_of-result
invariant_of-result c = grind (arith, common_steps, length-left c.self.inside.bytes.items c.self.inside.settled.items c.args.choice.now c.in_ok-bytes_left.field-0.items c.self.invariant)

pub returns : goal.returns
returns c = grind (arith, common_steps, cells-alike c.in_ok-bytes_left.field-0.items true, length-left c.self.inside.bytes.items c.self.inside.settled.items c.args.choice.now c.in_ok-bytes_left.field-0.items c.self.invariant)
