use Rattle.cc_service.proofs.Answering.{seen_where_ok}
use Rattle.cc_service.proofs.service.Service.look.Goals as goal

pub returns-clause-ok : goal.returns-clause-ok
returns-clause-ok g c =
    seen_where_ok c.deref_mut.result.now.book c.args.client.now.member c.args.asked c.look.new.book.book c.look.new.self.member c.look.result c.look.ensures.answers
