-- Disks may move to another thread: one on a file, one in memory, and one that fails on purpose, if the disk inside it may move.
use denote.RattleType.{RattleType}
use denote.Param.Send.{IsSend, sendable, recorded_send, view_send, struct_send}
use denote.Struct.Declared.{shape}
use Rattle.std.proofs.Crossing.{crosses}
use Rattle.cc_disk.specs.contracts.cells.Cells as Cells
use Rattle.cc_disk.specs.contracts.cells.Cells.TheInside as cells
use Rattle.cc_disk.specs.contracts.count.FailureCount as Count
use Rattle.cc_disk.specs.contracts.count.FailureCount.TheInside as counts
use Rattle.cc_disk.specs.contracts.file.SystemFile as SystemFile
use Rattle.cc_disk.specs.contracts.file.SystemFileFileCalls.TheImpl as calls
use Rattle.cc_disk.specs.contracts.over.DiskOver as DiskOver
use Rattle.cc_disk.specs.declared.calls.FileCalls.{Ghosts as FileGhosts}
use Rattle.cc_disk.specs.contracts.fuse.FuseDisk as FuseDisk
use Rattle.cc_disk.specs.contracts.history.History as History
use Rattle.cc_disk.specs.contracts.memory.MemoryDisk as MemoryDisk
use Rattle.cc_disk.specs.contracts.memory.MemoryDisk.TheInside as memories

pub history_send : (T : RattleType) → IsSend T → IsSend (History.the_row T)
history_send T s = search (sendable, crosses) depth 20

count_send : IsSend Count.the_row
count_send = view_send _ _ _ _ _ (recorded_send counts.the_field.row _ _ counts.the_type.to_one (struct_send (shape counts.the_type) (search sendable, (search (sendable, crosses) depth 20, tt))))

cells_send : IsSend Cells.the_row
cells_send = view_send _ _ _ _ _ (recorded_send cells.the_field.row _ _ cells.the_type.to_one (struct_send (shape cells.the_type) (search (sendable, crosses) depth 20, (search (sendable, crosses) depth 20, tt))))

pub file_send : IsSend (DiskOver.the_row SystemFile.the_row calls.ghosts)
file_send = let c = count_send in search (sendable, crosses) depth 20 fits 10000

over_send : (F : RattleType) (g : FileGhosts F.Denot) → IsSend F → IsSend (DiskOver.the_row F g)
over_send F g s = let c = count_send in search (sendable, crosses) depth 20 fits 10000

pub memory_send : IsSend MemoryDisk.the_row
memory_send = view_send _ _ _ _ _ (recorded_send memories.the_field.row _ _ memories.the_type.to_one (struct_send (shape memories.the_type) (let c = cells_send in search (sendable, crosses) depth 20, (let c = cells_send in search (sendable, crosses) depth 20, tt))))

pub fuse_send : (D : RattleType) → IsSend D → IsSend (FuseDisk.the_row D)
fuse_send D s = let c = count_send in search (sendable, crosses) depth 20 fits 10000
