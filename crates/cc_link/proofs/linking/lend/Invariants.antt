use Rattle.std.proofs.Common.{◌≡◌, ◌++◌, drop}
use Rattle.cc_link.specs.Linked.{lent_pieces}
use Rattle.cc_link.proofs.linking.lend.Given as goal

-- the references so far, followed by those to the pieces that are left, are the references to all pieces
abbrev pub invariant-loop-piece : goal.invariant-loop-piece
invariant-loop-piece l = record {
  left : lent_pieces l.lent.items ++ drop l.piece-index l.pieces ≡ l.pieces;
}
