-- This many rows are made.
use Rattle.cc_rtl_language.specs.Positions.{graph_of}
use Rattle.cc_rtl_language.proofs.Places.{Rows}
use Rattle.cc_rtl_language.proofs.positions.graph.Given as goal

abbrev pub invariant-loop-at : goal.invariant-loop-at
invariant-loop-at l = Rows (graph_of l.rtl.nodes) l.graph l.at
