use Rattle.cc_headline.proofs.Runs.{kept_run}
use Rattle.cc_headline.proofs.recovered.headline.Goals as goal

pub returns-clause-survives : goal.returns-clause-survives
returns-clause-survives g c = c.survival_law.ensures.survives

pub returns-clause-agrees : goal.returns-clause-agrees
returns-clause-agrees g c = λ first new events start run found. c.crash_law.ensures.right first new events start found (kept_run c.linked_units_follow.ensures.follow c.linked_units_follow.ensures.agree first new events run)

pub returns-clause-units : goal.returns-clause-units
returns-clause-units g c = λ first new events start run. c.crash_law.ensures.units first new events start (kept_run c.linked_units_follow.ensures.follow c.linked_units_follow.ensures.agree first new events run)
