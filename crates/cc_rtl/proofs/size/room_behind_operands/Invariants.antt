use Rattle.std.proofs.Common.{◌≡◌, ◌+◌, drop}
use Rattle.cc_cminor_language.specs.Code.{expressions_of}
use Rattle.cc_rtl.specs.Size.{operands_nodes}
use Rattle.cc_rtl.proofs.size.room_behind_operands.Given as goal

-- there is room for the rest in what is left exactly if there is room for all in the whole
abbrev pub invariant-loop-e : goal.invariant-loop-e
invariant-loop-e l = l.left + operands_nodes (expressions_of l.es) ≡ l.fn.room + operands_nodes (expressions_of (drop l.e-index l.es))
