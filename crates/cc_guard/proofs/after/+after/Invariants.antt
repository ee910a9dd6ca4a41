use Rattle.std.proofs.Common.{◌≡◌, drop}
use Rattle.cc_cminor_language.specs.Code.{in_sequence}
use Rattle.cc_cminor_language.specs.Statements.{statements_of}
use Rattle.cc_guard.specs.Guard.{known_after}
use Rattle.cc_guard.specs.internal.Written.{sizes_of}
use Rattle.cc_guard.proofs.after.+after.Given as goal

-- what is known after the remaining statements, starting from the bounds so far, is what is known after the
-- whole list
abbrev pub invariant-after_all-loop-s : goal.invariant-after_all-loop-s
invariant-after_all-loop-s l = known_after (sizes_of l.sizes) l.first l.limits.items (in_sequence (statements_of (drop l.s-index l.all))) ≡ known_after (sizes_of l.sizes) l.first l.known (in_sequence (statements_of l.all))
