use Rattle.std.proofs.Common.{map, ◌∙◌}
use Rattle.cc_tokens.specs.Token.{lexemes}
use Rattle.cc_wide_text.specs.internal.Views.{number}
use Rattle.cc_wide_text.proofs.Answered.{marked_refused}
use Rattle.cc_wide_text.proofs.reading.Reader.read_numbered.Goals as goal

pub returns-in-Err-parse : goal.returns-in-Err-parse
returns-in-Err-parse c =
    marked_refused (map number c.args.numbers.now) (lexemes c.args.self.text.now c.args.self.tokens.now) c.as_slice.result.now c.in-Err-parse.fault c.fault_in.result
    (c.as_slice.ensures.value ∙ c.in-Ok.ensures.0) c.in-Ok.ensures.1 c.fault_in.ensures c.in-Err-parse.ensures.only
