use Rattle.std.proofs.Common.{◌≡◌, ◌++◌, drop}
use Rattle.cc_linear.specs.internal.Places.{AllLeadIn, graph_of}
use Rattle.cc_linear.proofs.tables.graph.Given as goal

-- the rows so far, followed by those of the rest, are the whole graph
abbrev pub invariant-loop-block : goal.invariant-loop-block
invariant-loop-block l = record {
  so_far : l.graph.items ++ graph_of l.labels l.ends (drop l.block-index l.blocks) ≡ graph_of l.labels l.ends l.blocks;
  rest : AllLeadIn l.labels (drop l.block-index l.blocks);
}
