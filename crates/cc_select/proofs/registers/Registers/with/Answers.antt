use Rattle.cc_select.proofs.Bits.{with_is}
use Rattle.cc_select.proofs.registers.Registers.with.Goals as goal

pub returns : goal.returns
returns c = with_is c.args.self.bits c.args.register c.requires
