-- The disk may go to the threads.
use denote.Param.Send.{sendable}
use Rattle.std.proofs.Crossing.{crosses}
use Rattle.cc_disk.proofs.Crossing.{memory_send}
use Rattle.tests_session.proofs.tests.generations.served_in_memory.Goals as goal

pub served_on-requires-send-D : goal.served_on-requires-send-D
served_on-requires-send-D g c κs within = let d = memory_send in search (sendable, crosses) depth 40 fits 40000
