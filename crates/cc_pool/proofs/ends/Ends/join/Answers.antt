use Rattle.std.proofs.Common.{ap, ◌∙◌}
use Rattle.cc_pool.proofs.Rules.{joins}
use Rattle.cc_pool.proofs.ends.Ends.join.Goals as goal

pub absorb-requires-clause-rule : goal.absorb-requires-clause-rule
absorb-requires-clause-rule g c = joins _ _ _ _ (ap (λ v. v.role) c.own.view_is ∙ c.requires.own) (ap (λ v. v.role) c.other.view_is ∙ c.requires.other)
