use Rattle.std.proofs.Common.{◌≡◌, ◌++◌, drop}
use Rattle.cc_emit.specs.Contract.{largest_frame}
use Rattle.cc_link.specs.Linked.{lent_pieces}
use Rattle.cc_size.specs.Size.{frames_of}
use Rattle.cc_size.specs.internal.Deeper.{AreFew}
use Rattle.cc_size.proofs.tables.frames.Given as goal

-- the frames so far, followed by those of the pieces that are left, are all frames
abbrev pub invariant-loop-piece : goal.invariant-loop-piece
invariant-loop-piece l = record {
  left : l.frames.items ++ frames_of (lent_pieces (drop l.piece-index l.pieces)) ≡ frames_of (lent_pieces l.pieces);
  few : AreFew largest_frame l.frames.items;
}
