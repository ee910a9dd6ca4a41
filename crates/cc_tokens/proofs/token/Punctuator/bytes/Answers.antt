use Rattle.std.proofs.Common.{rules}
use Rattle.cc_tokens.proofs.token.Punctuator.bytes.Goals as goal

pub returns-in-Caret : goal.returns-in-Caret
returns-in-Caret c = search rules
