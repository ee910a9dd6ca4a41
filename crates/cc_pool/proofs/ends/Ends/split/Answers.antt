use Rattle.std.proofs.Common.{ap, ◌∙◌}
use Rattle.cc_pool.proofs.Rules.{splits}
use Rattle.cc_pool.proofs.ends.Ends.split.Goals as goal

pub another-requires-clause-rule : goal.another-requires-clause-rule
another-requires-clause-rule g c = splits _ _ (ap (λ v. v.role) c.own.view_is ∙ c.requires)
