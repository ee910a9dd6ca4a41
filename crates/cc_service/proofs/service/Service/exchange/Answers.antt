-- The update was made under the lock, to a book that keeps what every book of the service keeps.
use Rattle.std.proofs.Common.{subst}
use Rattle.cc_library.specs.declared.command.Change.TheVariants.{Replace}
use Rattle.cc_recorded.specs.Promise.{IsSound}
use Rattle.cc_recorded.specs.Since.{BookSince}
use Rattle.cc_service.proofs.Updating.{update_stored, updates_by}
use Rattle.cc_service.proofs.service.Service.exchange.Goals as goal

pub returns-clause-answers : goal.returns-clause-answers
returns-clause-answers g c =
    updates_by g.D.Disk c.deref_mut.result.now.book c.update-answer.new.book.book c.args.client.now.member c.update-answer.new.self.member c.args.name c.args.expected.now (Replace c.args.name c.args.unit)
    c.update-answer.result c.update-answer.ensures.answers

pub returns-clause-stored : goal.returns-clause-stored
returns-clause-stored g c =
    let D = g.D.Disk in
    let N = g.N.Based in
    let sound = subst (λ (b : BookSince g.row.D.Denot). IsSound D N.base N.from N.left b.book) c.deref.ensures c.survives.ensures.sound in
    update_stored D N.base N.from N.left c.deref_mut.result.now.book c.update-answer.new.book.book c.args.client.now.member c.update-answer.new.self.member c.args.name c.args.expected.now (Replace c.args.name c.args.unit)
    c.update-answer.result c.update-answer.ensures.answers sound
