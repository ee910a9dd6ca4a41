-- The tests' device may go to another thread.
use denote.Param.Send.{IsSend}
use Rattle.cc_disk.specs.contracts.memory.MemoryDisk as MemoryDisk
use Rattle.cc_disk.specs.contracts.fuse.FuseDisk as FuseDisk
use Rattle.cc_disk.proofs.Crossing.{memory_send, fuse_send}

pub device_send : IsSend (FuseDisk.the_row MemoryDisk.the_row)
device_send = fuse_send MemoryDisk.the_row memory_send
