use Rattle.cc_select.proofs.Bits.{alone_is}
use Rattle.cc_select.proofs.registers.Registers.result.Goals as goal

pub returns : goal.returns
returns c = alone_is 10
