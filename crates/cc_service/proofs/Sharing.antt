-- Threads may share a service; it may go to another thread, and so may a client.
use denote.RattleType.{RattleType}
use denote.Param.Send.{IsSend, IsSync, sendable, recorded_send, recorded_sync, view_send, struct_send, struct_sync}
use denote.Struct.Declared.{shape}
use Rattle.std.proofs.Crossing.{crosses}
use Rattle.std.proofs.sync.ledger.Share.TheSendSync as share
use Rattle.std.specs.declared.sync.ledger.Ledger as Ledger
use Rattle.cc_disk.specs.declared.disk.Disk as Disk
use Rattle.cc_pool.specs.declared.named.Queued as Queued
use Rattle.cc_pool.proofs.Sharing.{pass_send, pool_send, pool_sync}
use Rattle.cc_recorded.specs.declared.named.Based as Based
use Rattle.cc_recorded.proofs.Sharing.{book_send, member_send}
use Rattle.cc_service.specs.contracts.client.Client as Client
use Rattle.cc_service.specs.contracts.client.Client.TheInside as clients
use Rattle.cc_service.specs.contracts.desk.Desk as Desk
use Rattle.cc_service.specs.contracts.desk.Desk.TheInside as desks
use Rattle.cc_service.specs.contracts.service.Service as Service

module _ (N : RattleType) (b : Based.Ghosts N.Denot) (l : Ledger.Ghosts N.Denot) (q : Queued.Ghosts N.Denot) where
  pub client_send : IsSend N → IsSend (Client.the_row N b l q)
  client_send s =
      view_send _ _ _ _ _ (recorded_send (clients.the_field N b l q).row _ _ (clients.the_type N b l q).to_one (struct_send (shape (clients.the_type N b l q))
      (member_send N b l, (pass_send N q s, (search sendable, tt)))))

  desk_send : IsSend (Desk.the_row N b l q)
  desk_send =
      view_send _ _ _ _ _ (recorded_send (desks.the_field N b l q).row _ _ (desks.the_type N b l q).to_one (struct_send (shape (desks.the_type N b l q))
      (search sendable, (share.the_send N l, tt))))

  module _ (D : RattleType) (d : Disk.Ghosts D.Denot) where
    pub service_sync : IsSend N → IsSync N → IsSend D → IsSync (Service.the_row N D b l q d)
    service_sync s y t =
        let k = book_send N b l D d t in
        let c = desk_send in
        recorded_sync _ _ _ (Service.the_type N D b l q d).to_one (struct_sync (shape (Service.the_type N D b l q d))
        (search (sendable, crosses) depth 10, (search (sendable, crosses) depth 10, (pool_sync N q s y, (search (sendable, crosses) depth 10, tt)))))

    pub service_send : IsSend N → IsSend D → IsSend (Service.the_row N D b l q d)
    service_send s t =
        let k = book_send N b l D d t in
        let c = desk_send in
        recorded_send _ _ _ (Service.the_type N D b l q d).to_one (struct_send (shape (Service.the_type N D b l q d))
        (search (sendable, crosses) depth 10, (search (sendable, crosses) depth 10, (pool_send N q s, (search (sendable, crosses) depth 10, tt)))))
