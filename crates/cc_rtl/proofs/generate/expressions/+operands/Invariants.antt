use Rattle.std.proofs.Common.{length}
use Rattle.cc_rtl.proofs.generate.expressions.+operands.Given as goal

abbrev pub decreases-operands : goal.decreases-operands
decreases-operands l = length l.es.now
