use Rattle.std.proofs.Common.{◌≡◌, drop}
use Rattle.cc_cminor_language.specs.Code.{in_sequence}
use Rattle.cc_cminor_language.specs.Statements.{statements_of}
use Rattle.cc_guard.specs.Guard.{falls}
use Rattle.cc_guard.proofs.Writing.{last_falls}
use Rattle.cc_guard.proofs.changed.+falling.Given as goal

-- the last of the remaining statements decides whether control reaches the end of the list; if none remains, the last one so
-- far does
abbrev pub invariant-last_falls-loop-s : goal.invariant-last_falls-loop-s
invariant-last_falls-loop-s l = last_falls l.last (statements_of (drop l.s-index l.all)) ≡ falls (in_sequence (statements_of l.all))
