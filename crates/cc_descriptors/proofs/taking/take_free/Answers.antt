use Rattle.cc_descriptors.proofs.Held.{held}
use Rattle.cc_descriptors.proofs.taking.take_free.Goals as goal

pub returns-clause-held : goal.returns-clause-held
returns-clause-held g c =
    held _ _ _ _ _ _ c.in_ok-input.ensures.taken c.in_ok-input.ensures.held c.in_ok-output.ensures.taken c.in_ok-output.ensures.held c.in_ok-error.ensures.held
