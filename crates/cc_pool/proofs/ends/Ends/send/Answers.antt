use Rattle.std.proofs.Common.{ap, ◌∙◌}
use Rattle.cc_pool.specs.Rule.{is_live}
use Rattle.cc_pool.proofs.Rules.{sends}
use Rattle.cc_pool.proofs.ends.Ends.send.Goals as goal

pub send_as-requires-clause-rule : goal.send_as-requires-clause-rule
send_as-requires-clause-rule g c = (sends _ _ _ _ (ap (λ v. is_live v.role) c.seat.view_is ∙ c.requires), λ items views kept at. tt)
