use Rattle.std.proofs.Common.{◌≡◌, ◌-◌, ◌++◌}
use Rattle.cc_link.specs.Linked.{missing, in_order, lent_pieces}
use Rattle.cc_link.proofs.order.in_order.Given as goal

-- no function so far lacks a piece; the pieces so far, followed by those of the functions that are left, are
-- all the pieces
abbrev pub invariant-loop-function : goal.invariant-loop-function
invariant-loop-function l = record {
  left : missing (lent_pieces l.pieces) 0 l.functions ≡ missing (lent_pieces l.pieces) l.function (l.functions - l.function);
  ordered : lent_pieces l.ordered.items ++ in_order (lent_pieces l.pieces) l.function (l.functions - l.function) ≡ in_order (lent_pieces l.pieces) 0 l.functions;
}
