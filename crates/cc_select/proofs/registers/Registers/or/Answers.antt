use Rattle.cc_select.proofs.Bits.{either_is}
use Rattle.cc_select.proofs.registers.Registers.or.Goals as goal

pub returns : goal.returns
returns c = either_is c.args.self.bits c.args.other.bits
