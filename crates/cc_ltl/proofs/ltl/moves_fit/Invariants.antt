use Rattle.cc_ltl.specs.Ltl.{IsMove}
use Rattle.cc_ltl.proofs.Checking.{SameForRest}
use Rattle.cc_ltl.proofs.ltl.moves_fit.Given as goal

abbrev pub invariant-loop-each : goal.invariant-loop-each
invariant-loop-each l = SameForRest (IsMove l.slots) l.moves l.each-index
