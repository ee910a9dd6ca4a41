use Rattle.std.proofs.Common.{arith}
use Rattle.std.proofs.lemmas.Grind.{common_steps}
use Rattle.cc_disk.specs.Model.{IsImage}
use Rattle.cc_disk.proofs.Images.{bytes_of-written, written_images}
use Rattle.cc_disk.proofs.Moments.{elapses_one}
use Rattle.cc_disk.proofs.memory.MemoryDiskDisk.write_at.Goals as goal

pub returns-clause-written : goal.returns-clause-written
returns-clause-written c = grind (arith, common_steps, bytes_of-written c.args.self.now.cells c.args.offset c.args.bytes.now)

pub returns-clause-images : goal.returns-clause-images
returns-clause-images c = grind (arith, common_steps, written_images c.args.self.now.cells c.args.offset c.args.bytes.now c.requires)

pub returns-clause-time : goal.returns-clause-time
returns-clause-time c = grind (arith, common_steps, elapses_one IsImage c.args.self.now.past c.args.self.now.cells c.write.new.self)
