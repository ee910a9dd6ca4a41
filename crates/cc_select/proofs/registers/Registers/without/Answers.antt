use Rattle.std.proofs.Common.{rules}
use Rattle.cc_select.proofs.Bits.{without_is}
use Rattle.cc_select.proofs.registers.Registers.without.Goals as goal

pub returns : goal.returns
returns c = without_is c.args.self.bits c.args.register c.requires (search rules)
