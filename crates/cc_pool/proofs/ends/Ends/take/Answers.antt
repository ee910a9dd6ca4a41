use Rattle.std.proofs.Common.{ap, ◌∙◌}
use Rattle.cc_pool.specs.Rule.{is_live}
use Rattle.cc_pool.proofs.Rules.{takes, sees}
use Rattle.cc_pool.proofs.ends.Ends.take.Goals as goal

pub recv_as-requires-clause-rule : goal.recv_as-requires-clause-rule
recv_as-requires-clause-rule g c = (takes _ _ (ap (λ v. is_live v.role) c.seat.view_is ∙ c.requires), sees _ _)
