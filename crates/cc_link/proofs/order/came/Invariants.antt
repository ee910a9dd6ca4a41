use Rattle.std.proofs.Common.{◌≡◌, drop}
use Rattle.cc_link.specs.Linked.{is_among, lent_pieces}
use Rattle.cc_link.specs.internal.Lent.{functions_of}
use Rattle.cc_link.proofs.order.came.Given as goal

abbrev pub invariant-loop-piece : goal.invariant-loop-piece
invariant-loop-piece l = is_among (functions_of (lent_pieces l.pieces)) l.function ≡ is_among (functions_of (lent_pieces (drop l.piece-index l.pieces))) l.function
