use Rattle.std.proofs.Common.{◌≡◌, ◌++◌, drop}
use Rattle.cc_emit.specs.Contract.{largest_frame}
use Rattle.cc_link.specs.Linked.{lent_pieces}
use Rattle.cc_size.specs.Size.{ones_of}
use Rattle.cc_size.specs.internal.Deeper.{AreFew}
use Rattle.cc_size.proofs.tables.ones.Given as goal

-- the entries so far, followed by those of the pieces that are left, are all entries
abbrev pub invariant-loop-piece : goal.invariant-loop-piece
invariant-loop-piece l = record {
  left : l.ones.items ++ ones_of (lent_pieces (drop l._piece-index l.pieces)) ≡ ones_of (lent_pieces l.pieces);
  few : AreFew largest_frame l.ones.items;
}
