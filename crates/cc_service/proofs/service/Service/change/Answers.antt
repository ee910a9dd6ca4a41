-- The change was made under the lock, to a book that keeps what every book of the service keeps.
use Rattle.std.proofs.Common.{Ok, subst}
use Rattle.cc_recorded.specs.Promise.{IsSound}
use Rattle.cc_recorded.specs.Since.{BookSince}
use Rattle.cc_service.proofs.Storing.{stored}
use Rattle.cc_service.proofs.service.Service.change.Goals as goal

pub returns-in-Ok-clause-stored : goal.returns-in-Ok-clause-stored
returns-in-Ok-clause-stored g c =
    let D = g.D.Disk in
    let N = g.N.Based in
    let sound = subst (λ (b : BookSince g.row.D.Denot). IsSound D N.base N.from N.left b.book) c.deref.ensures c.survives.ensures.sound in
    stored D N.base N.from N.left c.deref_mut.result.now.book c.change-answer.new.book.book c.args.client.now.member c.change-answer.new.self.member c.args.command (Ok c.in-Ok.receipt)
    c.in-Ok.ensures.answers sound
