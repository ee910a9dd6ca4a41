use Rattle.std.proofs.Common.{length}
use Rattle.cc_rtl.proofs.generate.expressions.+hold.Given as goal

abbrev pub decreases-hold : goal.decreases-hold
decreases-hold l = length l.es.now
