use denote.Param.Send.{sendable}
use Rattle.std.proofs.Crossing.{crosses}
use Rattle.cc_pool.proofs.Crossing.{ends_send, taker_send, back_send}
use Rattle.cc_pool.proofs.hiring.spawned.Goals as goal

pub spawn-requires-send-F : goal.spawn-requires-send-F
spawn-requires-send-F g c κs within =
    let n = c.type_bounds.send-N in
    let r = c.type_bounds.send-R in
    let s = c.type_bounds.send-G in
    let y = c.type_bounds.sync-G in
    search (sendable, crosses, ends_send, taker_send, back_send) depth 40 fits 40000
