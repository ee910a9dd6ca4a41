use Rattle.std.proofs.Common.{◌≡◌, ◌++◌, drop}
use Rattle.cc_link.specs.Linked.{all_items, lent_pieces}
use Rattle.cc_link.specs.internal.Filling.{lent}
use Rattle.cc_link.proofs.order.all_items.Given as goal

-- the items so far, followed by those of the pieces that are left, are the items of all pieces
abbrev pub invariant-loop-piece : goal.invariant-loop-piece
invariant-loop-piece l = record {
  left : lent l.bodies.items ++ all_items (lent_pieces (drop l.piece-index l.pieces)) ≡ all_items (lent_pieces l.pieces);
}
