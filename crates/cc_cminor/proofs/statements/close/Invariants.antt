use Rattle.std.proofs.Common.{length}
use Rattle.cc_cminor.proofs.Closing.{Closing}
use Rattle.cc_cminor.proofs.statements.close.Given as goal

abbrev pub invariant-loop-names : goal.invariant-loop-names
invariant-loop-names l = Closing l.locals l.fn.names l.names

abbrev pub decreases-loop-names : goal.decreases-loop-names
decreases-loop-names l = length l.names.locals
