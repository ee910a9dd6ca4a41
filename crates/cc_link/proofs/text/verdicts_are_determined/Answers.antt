use Rattle.cc_typing.proofs.Determined.{verdicts_are_one, texts_have_verdicts}
use Rattle.cc_link.proofs.text.verdicts_are_determined.Goals as goal

pub returns-clause-one_verdict : goal.returns-clause-one_verdict
returns-clause-one_verdict c = verdicts_are_one c.parse_is_determined.ensures.one

pub returns-clause-some_verdict : goal.returns-clause-some_verdict
returns-clause-some_verdict c = texts_have_verdicts c.parse_is_determined.ensures.some
