use Rattle.std.proofs.Common.{length}
use Rattle.cc_rtl.proofs.Making.{Turns}
use Rattle.cc_rtl.proofs.generate.graph.Graph.finish.Given as goal

abbrev pub invariant-loop-place : goal.invariant-loop-place
invariant-loop-place l = Turns l.last l.fn.self l.nodes l.places.entries

abbrev pub decreases-loop-place : goal.decreases-loop-place
decreases-loop-place l = length l.places.entries
