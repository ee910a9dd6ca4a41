-- The shares are the whole ledger, so there are as many receipts as the history has entries; the rest is `receipts_count_up`.
use Rattle.std.proofs.Common.{◌≡◌, List, length, sym, ap, subst, arith}
use Rattle.cc_history.specs.declared.entry.Entry.{Entry}
use Rattle.cc_history.specs.Closing.{ReceiptsStand, receipts_of}
use Rattle.cc_recorded.specs.Book.{BookView}
use Rattle.cc_service.specs.Client.{members}
use Rattle.cc_service.proofs.closing.end.Goals as goal

pub returns-clause-closed : goal.returns-clause-closed
returns-clause-closed g c =
    let history = c.end-base.result.history.items in
    let clients = members c.args.clients.items in
    let stand = subst (λ (h : List Entry). ReceiptsStand h clients) (sym (ap (λ (b : BookView g.row.D.Denot). b.history) c.end-base.ensures.of_book)) c.requires.stand in
    let total : receipts_of clients ≡ length history = omega (arith, c.end-base.ensures.counted, c.gather.ensures.amount, c.requires.amount) in
    c.receipts_count_up.ensures history clients c.gather.ensures.own c.requires.apart stand total
