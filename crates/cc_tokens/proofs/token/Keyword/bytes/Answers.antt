use Rattle.std.proofs.Common.{rules}
use Rattle.cc_tokens.proofs.token.Keyword.bytes.Goals as goal

pub returns-in-Int : goal.returns-in-Int
returns-in-Int c = search rules
