use Rattle.cc_typing.proofs.Determined.{type_answers_are_one, units_have_type_answers}
use Rattle.cc_typing.proofs.checking.check_is_determined.Goals as goal

pub returns-clause-one : goal.returns-clause-one
returns-clause-one c = type_answers_are_one

pub returns-clause-some : goal.returns-clause-some
returns-clause-some c = units_have_type_answers
