use Rattle.std.proofs.Common.{Bool, List, drop}
use Rattle.cc_cminor_language.specs.Code.{in_sequence}
use Rattle.cc_cminor_language.specs.Statements.{statements_of}
use Rattle.cc_guard.specs.Guard.{sets}
use Rattle.cc_guard.specs.internal.Marks.{Marks}
use Rattle.cc_guard.proofs.changed.+marking.Given as goal

-- once the remaining statements are marked too, the whole list is marked
abbrev pub invariant-mark_all-loop-s : goal.invariant-mark_all-loop-s
invariant-mark_all-loop-s l = (last : List Bool) → Marks (sets (in_sequence (statements_of (drop l.s-index l.all)))) l.marks.items last → Marks (sets (in_sequence (statements_of l.all))) l.fn.marks.items last
