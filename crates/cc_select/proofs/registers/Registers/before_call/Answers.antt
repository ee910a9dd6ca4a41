use Rattle.cc_select.proofs.Bits.{before_call_is}
use Rattle.cc_select.proofs.registers.Registers.before_call.Goals as goal

pub returns : goal.returns
returns c = before_call_is c.args.self.bits
