use Rattle.std.proofs.Common.{rules}
use Rattle.cc_select.proofs.Bits.{within_is}
use Rattle.cc_select.proofs.registers.Registers.lies_within.Goals as goal

pub returns : goal.returns
returns c = within_is c.args.self.bits c.args.other.bits (search rules) (search rules)
