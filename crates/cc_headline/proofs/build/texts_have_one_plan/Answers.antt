use Rattle.cc_headline.specs.internal.Law.{sources_are_planned}
use Rattle.cc_headline.proofs.Plans.{one_plan}
use Rattle.cc_headline.proofs.build.texts_have_one_plan.Goals as goal

pub returns-clause-some : goal.returns-clause-some
returns-clause-some c = sources_are_planned

pub returns-clause-one : goal.returns-clause-one
returns-clause-one c = one_plan
