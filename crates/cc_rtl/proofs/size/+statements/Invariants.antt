use Rattle.std.proofs.Common.{◌≡◌, ◌+◌, drop}
use Rattle.cc_cminor_language.specs.Code.{in_sequence}
use Rattle.cc_cminor_language.specs.Statements.{statements_of}
use Rattle.cc_rtl.specs.Size.{statement_nodes}
use Rattle.cc_rtl.proofs.size.+statements.Given as goal

-- there is room for the rest in what is left exactly if there is room for all in the whole
abbrev pub invariant-room_behind_statements-loop-s : goal.invariant-room_behind_statements-loop-s
invariant-room_behind_statements-loop-s l =
    l.left + statement_nodes (in_sequence (statements_of l.all)) ≡ l.fn.room + statement_nodes (in_sequence (statements_of (drop l.s-index l.all)))
