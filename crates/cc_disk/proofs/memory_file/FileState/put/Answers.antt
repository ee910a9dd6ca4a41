use Rattle.std.proofs.Common.{arith}
use Rattle.std.proofs.lemmas.Grind.{common_steps}
use Rattle.cc_disk.proofs.Images.{bytes_of-written}
use Rattle.cc_disk.proofs.Files.{filled_cells}
use Rattle.cc_disk.proofs.memory_file.FileState.put.Goals as goal

pub returns-then-len-end-clause-written : goal.returns-then-len-end-clause-written
returns-then-len-end-clause-written c = grind (arith, common_steps, filled_cells c.args.self.now.cells c.args.offset c.args.bytes.now)

pub returns-clause-written : goal.returns-clause-written
returns-clause-written c = grind (arith, common_steps, bytes_of-written c.args.self.now.cells c.args.offset c.args.bytes.now)
