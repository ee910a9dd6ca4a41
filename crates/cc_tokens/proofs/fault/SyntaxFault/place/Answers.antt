use Rattle.std.proofs.Common.{rules}
use Rattle.cc_tokens.proofs.fault.SyntaxFault.place.Goals as goal

pub returns-in-BadByte : goal.returns-in-BadByte
returns-in-BadByte c = search rules
