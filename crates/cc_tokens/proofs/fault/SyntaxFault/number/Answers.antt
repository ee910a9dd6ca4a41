use Rattle.std.proofs.Common.{rules}
use Rattle.cc_tokens.proofs.fault.SyntaxFault.number.Goals as goal

pub returns-in-TooDeep : goal.returns-in-TooDeep
returns-in-TooDeep c = search rules
