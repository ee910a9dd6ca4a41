use Rattle.std.proofs.Common.{◌≡◌, ◌++◌, drop}
use Rattle.cc_linear.specs.internal.Places.{AllLeadIn, next_places}
use Rattle.cc_linear.proofs.tables.next_places.Given as goal

-- the places so far, followed by those of the rest, are all the places
abbrev pub invariant-loop-block : goal.invariant-loop-block
invariant-loop-block l = record {
  so_far : l.places.items ++ next_places l.labels l.own (drop l.block-index l.blocks) ≡ next_places l.labels 0 l.blocks;
  own : l.own ≡ l.block-index;
  rest : AllLeadIn l.labels (drop l.block-index l.blocks);
}
