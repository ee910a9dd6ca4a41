use Rattle.cc_syntax.proofs.Parsed.{only}
use Rattle.cc_syntax.proofs.parser.parse.Goals as goal

pub returns-clause-only : goal.returns-clause-only
returns-clause-only c = only c.args.text.now c.parse_text.result c.parse_text.ensures
