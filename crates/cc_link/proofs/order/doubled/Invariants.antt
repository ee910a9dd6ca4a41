use Rattle.std.proofs.Common.{◌≡◌, [], take, drop}
use Rattle.cc_link.specs.Linked.{doubled, lent_pieces}
use Rattle.cc_link.specs.internal.Lent.{functions_of}
use Rattle.cc_link.proofs.order.doubled.Given as goal

-- no piece is doubled so far
abbrev pub invariant-loop-at : goal.invariant-loop-at
invariant-loop-at l = doubled [] 0 (lent_pieces l.pieces) ≡ doubled (functions_of (lent_pieces (take l.at l.pieces))) l.at (lent_pieces (drop l.at l.pieces))
