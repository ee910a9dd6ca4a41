use Rattle.std.proofs.Common.{subst}
use Rattle.cc_service.specs.Client.{ClientView}
use Rattle.cc_service.specs.Compiling.{HasSentFor}
use Rattle.cc_service.proofs.service.Service.prepare_in.Goals as goal

pub returns-clause-sent : goal.returns-clause-sent
returns-clause-sent g c = subst (λ (v : ClientView). HasSentFor c.args.source.now v.sent c.begun.new.pass.sent) c.client.view_is c.begun.ensures.sent
