-- The unit was compiled from the prepared text.
use Rattle.std.proofs.Common.{refl}
use Rattle.cc_service.proofs.Updating.{not_updated, update}
use Rattle.cc_service.proofs.service.Service.update_unit.Goals as goal

pub returns-in-Ok-clause-answers : goal.returns-in-Ok-clause-answers
returns-in-Ok-clause-answers g c =
    update c.args.prepared.mode c.args.name c.args.expected.now c.args.prepared.text c.in-Ok.unit c.args.client.now.member c.exchange.new.client.member
    (c.in-Ok.ensures.source, c.in-Ok.ensures.agrees, c.in-Ok.ensures.follows) c.requires.named c.in-Ok.ensures.program c.exchange.result c.exchange.ensures.answers

pub returns-in-Err-clause-answers : goal.returns-in-Err-clause-answers
returns-in-Err-clause-answers g c =
    let member = c.args.client.now.member in
    not_updated c.args.prepared.mode c.args.name c.args.expected.now c.args.prepared.text member member c.requires.named refl c.in-Err.fault c.in-Err.ensures.refused
