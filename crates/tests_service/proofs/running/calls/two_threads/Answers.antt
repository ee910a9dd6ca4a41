-- The thread that is started takes a client with it and shares the service.
use denote.Param.Send.{sendable}
use Rattle.std.proofs.Crossing.{crosses}
use Rattle.cc_service.proofs.Sharing.{client_send, service_sync}
use Rattle.tests_service.proofs.Crossing.{device_send}
use Rattle.tests_service.proofs.running.calls.two_threads.Goals as goal

pub join-a-requires-send-F : goal.join-a-requires-send-F
join-a-requires-send-F g c κs within =
    let n = c.type_bounds.send-N in
    let y = c.type_bounds.sync-N in
    let r = c.type_bounds.sync-R in
    let d = device_send in
    search (sendable, crosses, client_send, service_sync) depth 40 fits 40000
