-- The map that was found is the one that the parameter names. It names the first moment, and says nothing about what was left
-- then.
use Rattle.std.proofs.Common.{◌∙◌, arith}
use Rattle.tests_service.proofs.running.starting.begin.Goals as goal

pub open-requires-clause-named : goal.open-requires-clause-named
open-requires-clause-named g c = λ _ _ h units recovers. c.args.begun.base_is units recovers ∙ c.requires.names.1

pub open-requires-clause-past : goal.open-requires-clause-past
open-requires-clause-past g c = λ _ _ h. record { past = omega (arith, c.requires.names.2); all = λ image _. c.requires.names.3 image }
