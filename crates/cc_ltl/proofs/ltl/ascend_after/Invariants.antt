use Rattle.cc_ltl.proofs.Checking.{SameAfter}
use Rattle.cc_ltl.proofs.ltl.ascend_after.Given as goal

abbrev pub invariant-loop-block : goal.invariant-loop-block
invariant-loop-block l = SameAfter l.fn.first.label l.last l.rest l.block-index
