use Rattle.std.proofs.Common.{◌≡◌, ◌++◌, drop}
use Rattle.cc_link.specs.Linked.{lent_pieces}
use Rattle.cc_size.specs.Size.{sizes_from, sizes_of}
use Rattle.cc_size.proofs.tables.sizes.Given as goal

-- the sizes so far, followed by those of the functions that are left, are all sizes
abbrev pub invariant-loop-function : goal.invariant-loop-function
invariant-loop-function l = record {
  left : l.sizes.items ++ sizes_from (lent_pieces l.pieces) l.function (lent_pieces (drop l.function l.pieces)) ≡ sizes_of (lent_pieces l.pieces);
}
