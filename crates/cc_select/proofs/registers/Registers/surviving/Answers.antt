use Rattle.cc_select.proofs.Bits.{surviving_is}
use Rattle.cc_select.proofs.registers.Registers.surviving.Goals as goal

pub returns : goal.returns
returns c = surviving_is c.args.self.bits
