use Rattle.cc_ltl.specs.Ltl.{IsBlock}
use Rattle.cc_ltl.proofs.Checking.{SameForRest}
use Rattle.cc_ltl.proofs.ltl.blocks_fit.Given as goal

abbrev pub invariant-loop-block : goal.invariant-loop-block
invariant-loop-block l = SameForRest (IsBlock l.slots) l.blocks l.block-index
