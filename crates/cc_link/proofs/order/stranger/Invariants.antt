use Rattle.std.proofs.Common.{◌≡◌, ℕ, ◌<◌, get_or, drop}
use Rattle.cc_emit.specs.Piece.{Piece, IsPieceOfUnit}
use Rattle.cc_link.specs.Linked.{stranger, lent_pieces}
use Rattle.cc_link.specs.Made.{IsCompiled}
use Rattle.cc_link.proofs.order.stranger.Given as goal

-- no piece so far is a stranger, and each piece so far has what its type keeps
abbrev pub invariant-loop-at : goal.invariant-loop-at
invariant-loop-at l = record {
  left : stranger l.mode l.text 0 (lent_pieces l.pieces) ≡ stranger l.mode l.text l.at (lent_pieces (drop l.at l.pieces));
  kept : (k : ℕ) (d : Piece) → k < l.at → IsPieceOfUnit (get_or (lent_pieces l.pieces) k d);
  compiled : (k : ℕ) (d : Piece) → k < l.at → IsCompiled (get_or (lent_pieces l.pieces) k d);
}
