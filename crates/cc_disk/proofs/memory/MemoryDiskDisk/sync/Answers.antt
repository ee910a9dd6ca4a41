use Rattle.std.proofs.Common.{arith, List, subst}
use Rattle.std.proofs.lemmas.Grind.{common_steps}
use Rattle.cc_disk.specs.Model.{Cell, IsImage}
use Rattle.cc_disk.specs.Past.{DiskState}
use Rattle.cc_disk.proofs.Images.{bytes_of-synced, synced_alone, synced_adds_none}
use Rattle.cc_disk.proofs.Moments.{elapses_one}
use Rattle.cc_disk.proofs.memory.MemoryDiskDisk.sync.Goals as goal

pub returns-clause-settled : goal.returns-clause-settled
returns-clause-settled c = grind (arith, common_steps, synced_alone c.args.self.now.cells)

pub returns-clause-seen : goal.returns-clause-seen
returns-clause-seen c = grind (arith, common_steps, bytes_of-synced c.args.self.now.cells)

pub returns-clause-images : goal.returns-clause-images
returns-clause-images c = λ image now.
    subst (λ (d : DiskState). IsImage d.cells image) c.self.view_is
    (synced_adds_none c.self.inside.cells image (subst (λ (l : List Cell). IsImage l image) c.settle.ensures.cells now))

pub returns-clause-time : goal.returns-clause-time
returns-clause-time c = grind (arith, common_steps, elapses_one IsImage c.args.self.now.past c.args.self.now.cells c.settle.new.self)
