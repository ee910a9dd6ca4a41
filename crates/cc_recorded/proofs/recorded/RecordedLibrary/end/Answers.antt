-- The share is the whole ledger, so it counts as many calls as the history is long.
use Rattle.std.proofs.Common.{sym, ◌∙◌}
use Rattle.cc_recorded.proofs.recorded.RecordedLibrary.end.Goals as goal

pub returns-clause-counted : goal.returns-clause-counted
returns-clause-counted g c = sym (c.audit.ensures.whole c.requires.parts ∙ c.self.invariant.counted)
