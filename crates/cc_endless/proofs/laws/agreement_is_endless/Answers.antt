use Rattle.cc_endless.proofs.Agreeing.{agree_on_endless, agree_in_on_endless, backed_on_endless}
use Rattle.cc_endless.proofs.laws.agreement_is_endless.Goals as goal

pub returns-clause-plain : goal.returns-clause-plain
returns-clause-plain c = agree_on_endless

pub returns-clause-mode : goal.returns-clause-mode
returns-clause-mode c = agree_in_on_endless

pub returns-clause-backed : goal.returns-clause-backed
returns-clause-backed c = backed_on_endless
