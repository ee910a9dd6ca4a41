use Rattle.std.proofs.Common.{◌≡◌, drop}
use Rattle.std.specs.Prelude.{◌||◌}
use Rattle.cc_cminor_language.specs.Code.{in_sequence}
use Rattle.cc_cminor_language.specs.Statements.{statements_of}
use Rattle.cc_guard.specs.Guard.{leaves}
use Rattle.cc_guard.proofs.changed.+leaving.Given as goal

-- an exit in the list leaves the block exactly if one does in a statement so far, or in a remaining statement
abbrev pub invariant-any_leaves-loop-s : goal.invariant-any_leaves-loop-s
invariant-any_leaves-loop-s l = (l.found || leaves l.outer (in_sequence (statements_of (drop l.s-index l.all)))) ≡ leaves l.outer (in_sequence (statements_of l.all))
