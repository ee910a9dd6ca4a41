use Rattle.cc_syntax.proofs.Determined.{answers_are_one, texts_have_answers}
use Rattle.cc_syntax.proofs.parser.parse_is_determined.Goals as goal

pub returns : goal.returns
returns c = record { one = answers_are_one; some = texts_have_answers }
