use Rattle.std.proofs.Common.{ℕ, List, subst}
use Rattle.cc_service.specs.Compiling.{HasSentFor}
use Rattle.cc_service.proofs.compiling.begun.Goals as goal

pub returns-in-Ok-clause-sent : goal.returns-in-Ok-clause-sent
returns-in-Ok-clause-sent g c =
    subst (λ (t : List ℕ). HasSentFor t c.args.pass.now.sent c.handed_in.new.pass.sent) c.in-Ok.ensures.text c.handed_in.ensures.sent
