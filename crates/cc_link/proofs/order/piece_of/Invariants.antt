use Rattle.std.proofs.Common.{◌≡◌, drop}
use Rattle.cc_link.specs.Linked.{piece_of, lent_pieces}
use Rattle.cc_link.proofs.order.piece_of.Given as goal

abbrev pub invariant-loop-piece : goal.invariant-loop-piece
invariant-loop-piece l = piece_of (lent_pieces l.pieces) l.function ≡ piece_of (lent_pieces (drop l.piece-index l.pieces)) l.function
