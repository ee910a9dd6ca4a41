use Rattle.cc_select.proofs.Bits.{every_is}
use Rattle.cc_select.proofs.registers.Registers.all.Goals as goal

pub returns : goal.returns
returns c = every_is
