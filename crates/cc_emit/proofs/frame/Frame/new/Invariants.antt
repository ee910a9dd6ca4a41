-- The saved registers so far, followed by those still to be found, are all the saved registers.
use Rattle.cc_emit.proofs.Kept.{Chosen}
use Rattle.cc_emit.proofs.frame.Frame.new.Given as goal

abbrev pub invariant-loop-register : goal.invariant-loop-register
invariant-loop-register l = Chosen l.code l.register-index l.saved.items
