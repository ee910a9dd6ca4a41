-- The disk may go to the threads.
use denote.Param.Send.{sendable}
use Rattle.std.proofs.Crossing.{crosses}
use Rattle.cc_disk.specs.contracts.memory.MemoryDisk as MemoryDisk
use Rattle.cc_disk.proofs.Crossing.{memory_send, fuse_send}
use Rattle.tests_session.proofs.tests.generations.served_until.Goals as goal

pub served_on-requires-send-D : goal.served_on-requires-send-D
served_on-requires-send-D g c κs within = let d = fuse_send MemoryDisk.the_row memory_send in search (sendable, crosses) depth 40 fits 40000
