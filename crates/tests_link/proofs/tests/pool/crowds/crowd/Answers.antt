use denote.Param.Send.{sendable}
use Rattle.std.proofs.Crossing.{crosses}
use Rattle.cc_pool.proofs.Crossing.{typed_send, typed_sync}
use Rattle.cc_pool.proofs.Sharing.{pool_send, pool_sync, pass_send}
use Rattle.tests_link.proofs.tests.pool.crowds.crowd.Goals as goal

pub spawn-requires-send-F : goal.spawn-requires-send-F
spawn-requires-send-F g c κs within =
    let n = c.type_bounds.send-N in
    let y = c.type_bounds.sync-N in
    let r = c.type_bounds.send-R in
    search (sendable, crosses, pool_send, pool_sync, pass_send, typed_send, typed_sync) depth 12

pub spawn-requires-send-T : goal.spawn-requires-send-T
spawn-requires-send-T g c κs within = let n = c.type_bounds.send-N in search (sendable, pass_send) depth 12
