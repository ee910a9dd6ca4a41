-- A book may go to another thread, and so may a member.
use denote.RattleType.{RattleType}
use denote.Param.Send.{IsSend, sendable, recorded_send, view_send, struct_send}
use denote.Struct.Declared.{shape}
use Rattle.std.proofs.Crossing.{Vec-send}
use Rattle.std.proofs.sync.ledger.Book.TheSendSync as total
use Rattle.std.proofs.sync.ledger.Share.TheSendSync as share
use Rattle.std.specs.declared.sync.ledger.Ledger as Ledger
use Rattle.cc_disk.specs.declared.disk.Disk as Disk
use Rattle.cc_disk.proofs.Crossing.{history_send}
use Rattle.cc_recorded.specs.declared.named.Based as Based
use Rattle.cc_recorded.specs.contracts.member.Member as Member
use Rattle.cc_recorded.specs.contracts.member.Member.TheInside as members
use Rattle.cc_recorded.specs.contracts.recorded.RecordedLibrary as Recorded
use Rattle.cc_recorded.specs.contracts.recorded.RecordedLibrary.TheInside as recordeds
use Rattle.cc_recorded.specs.contracts.book.Book as Book
use Rattle.cc_recorded.specs.contracts.book.Book.TheInside as books
use Rattle.cc_recorded.proofs.Crossing.{change_send, map_send, library_send, shared_entry_send, receipt_send}

module _ (N : RattleType) (b : Based.Ghosts N.Denot) (l : Ledger.Ghosts N.Denot) where
  pub member_send : IsSend (Member.the_row N b l)
  member_send =
      view_send _ _ _ _ _ (recorded_send (members.the_field N b l).row _ _ (members.the_type N b l).to_one (struct_send (shape (members.the_type N b l))
      (search sendable, (Vec-send _ receipt_send, (share.the_send N l, tt)))))

  module _ (D : RattleType) (d : Disk.Ghosts D.Denot) where
    recorded_library_send : IsSend D → IsSend (Recorded.the_row N D b l d)
    recorded_library_send s =
        view_send _ _ _ _ _ (recorded_send (recordeds.the_field N D b l d).row _ _ (recordeds.the_type N D b l d).to_one (struct_send (shape (recordeds.the_type N D b l d))
        (map_send, (library_send D d s, (Vec-send _ shared_entry_send, (total.the_send N l, (history_send _ change_send, tt)))))))

    pub book_send : IsSend D → IsSend (Book.the_row N D b l d)
    book_send s =
        let r = recorded_library_send s in
        view_send _ _ _ _ _ (recorded_send (books.the_field N D b l d).row _ _ (books.the_type N D b l d).to_one (struct_send (shape (books.the_type N D b l d))
        (r, (history_send _ r, tt))))
