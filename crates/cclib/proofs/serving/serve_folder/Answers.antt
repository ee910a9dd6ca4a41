-- The disk and the spools go to the threads.
use denote.Param.Send.{sendable}
use Rattle.std.proofs.Crossing.{crosses}
use Rattle.cc_disk.proofs.Crossing.{file_send}
use Rattle.cc_spool.proofs.Crossing.{folder_send}
use Rattle.cclib.proofs.serving.serve_folder.Goals as goal

pub serve_asked-disk-requires-send-S : goal.serve_asked-disk-requires-send-S
serve_asked-disk-requires-send-S g c κs within = search (sendable, crosses, folder_send) depth 40 fits 40000

pub serve_asked-disk-requires-send-D : goal.serve_asked-disk-requires-send-D
serve_asked-disk-requires-send-D g c κs within = let d = file_send in search (sendable, crosses) depth 40 fits 40000
