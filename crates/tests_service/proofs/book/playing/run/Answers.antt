-- The map that was found is the one that the parameter names. It names the first moment, and says nothing about what was left
-- then.
use Rattle.std.proofs.Common.{◌∙◌, arith}
use Rattle.tests_service.proofs.book.playing.run.Goals as goal

pub open-requires-clause-named : goal.open-requires-clause-named
open-requires-clause-named g c = λ h units recovers. c.requires.base h units recovers ∙ c.requires.named

pub open-requires-clause-past : goal.open-requires-clause-past
open-requires-clause-past g c = λ h. record { past = omega (arith, c.requires.any.0); all = λ image _. c.requires.any.1 image }
